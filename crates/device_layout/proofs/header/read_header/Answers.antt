use Rattle.std.proofs.Common.{ap, sym, subst}
use Rattle.trend_num.specs.{TuningInRange}
use Rattle.device_layout.specs.{IsHeader}
use Rattle.device_layout.proofs.{HeaderFields.header_tuned, HeaderFields.header_slots}
use Rattle.device_layout.proofs.header.read_header.Goals.{After-header_in}
use Rattle.device_layout.proofs.header.read_header.Goals as goal

-- all fields were tested
header : (c : After-header_in) → IsHeader c.args.h.now
header c = record { size = c.told-h; fields = c.in_ok-check_fields.ensures.kept }

pub returns-clause-tuned : goal.returns-clause-tuned
returns-clause-tuned c =
    subst TuningInRange (sym (ap (λ d. d.tuning) c.header_in.ensures.def)) (header_tuned c.args.h.now (header c))

pub returns-clause-slots : goal.returns-clause-slots
returns-clause-slots c = rw c.header_in.ensures.slots (header_slots c.args.h.now (header c))

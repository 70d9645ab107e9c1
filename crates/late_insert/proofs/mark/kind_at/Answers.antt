use Rattle.std.proofs.Common.{sym, ◌∙◌}
use Rattle.std.specs.Int.{bit_at}
use Rattle.std.proofs.lemmas.Nat.Bits.{bit_at-lt, shr_and_one}
use Rattle.late_insert.proofs.Marks.{kind_set}
use Rattle.late_insert.proofs.mark.kind_at.Goals as goal

pub returns-else-marks-i-eq0 : goal.returns-else-marks-i-eq0
returns-else-marks-i-eq0 c =
    sym (kind_set (bit_at c.args.marks c.args.i) (bit_at-lt c.args.marks c.args.i)
    (λ none. c.if-marks-i-eq0.false (shr_and_one c.args.marks c.args.i ∙ none)))

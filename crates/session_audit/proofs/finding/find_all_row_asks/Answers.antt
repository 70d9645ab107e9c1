use Rattle.session_audit.specs.Agendas.{row_item}
use Rattle.session_audit.proofs.FindingTurns.{over_same}
use Rattle.session_audit.proofs.finding.find_all_row_asks.Goals as goal

pub returns-in-Err-clause-over : goal.returns-in-Err-clause-over
returns-in-Err-clause-over g c = λ groups files over.
    over_same row_item groups files c.args.works.now c.find_all.new.works c.find_all.ensures.same_rows over

pub returns-in-Ok-clause-over : goal.returns-in-Ok-clause-over
returns-in-Ok-clause-over g c = λ groups files over.
    over_same row_item groups files c.args.works.now c.find_all.new.works c.find_all.ensures.same_rows over

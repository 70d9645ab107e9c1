use Rattle.session_audit.proofs.Longer.{longer_committed}
use Rattle.session_audit.proofs.cell_committing.commit_cell.Goals as goal

pub returns-then-acked-eq0-clause-longer : goal.returns-then-acked-eq0-clause-longer
returns-then-acked-eq0-clause-longer g c =
    longer_committed _ _ c.in_ok-acked.acked c.args.cell.now c.loop-acked.cell c.commit.new.self c.in_ok-acked.ensures.committed
    c.loop-acked.invariant

pub loop-acked-preserved : goal.loop-acked-preserved
loop-acked-preserved g c =
    longer_committed _ _ c.in_ok-acked.acked c.args.cell.now c.loop-acked.cell c.commit.new.self c.in_ok-acked.ensures.committed
    c.loop-acked.invariant

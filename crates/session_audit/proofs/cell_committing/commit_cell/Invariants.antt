use Rattle.tag_cell.specs.{takes_waiting}
use Rattle.session_audit.specs.{IsCommitEntry, IsLonger}
use Rattle.session_audit.proofs.cell_committing.commit_cell.Given as goal

abbrev pub invariant-loop-acked : goal.invariant-loop-acked
invariant-loop-acked g l = IsLonger IsCommitEntry l.initial.cell l.cell

abbrev pub decreases-loop-acked : goal.decreases-loop-acked
decreases-loop-acked g l = takes_waiting l.cell

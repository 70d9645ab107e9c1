use Rattle.commit_log.specs.{rows_waiting}
use Rattle.plant_more.specs.{IsCommitted}
use Rattle.plant_more.proofs.log_commit.commit_waiting.Given as goal

abbrev pub invariant-loop-done : goal.invariant-loop-done
invariant-loop-done g l = IsCommitted l.fn.log l.log

abbrev pub decreases-loop-done : goal.decreases-loop-done
decreases-loop-done g l = rows_waiting l.log

use Rattle.std.proofs.Common.{◌≡◌}
use Rattle.tag_cell.specs.{takes_waiting}
use Rattle.collector_pool.proofs.collector.commit_all.Given as goal

abbrev pub invariant-loop-done : goal.invariant-loop-done
invariant-loop-done g l = l.cell.state ≡ l.fn.cell.state

abbrev pub decreases-loop-done : goal.decreases-loop-done
decreases-loop-done g l = takes_waiting l.cell

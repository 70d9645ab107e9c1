use Rattle.std.proofs.Common.{◌-◌, ◌≤◌, length}
use Rattle.commit_log.specs.{WritesRows}
use Rattle.commit_log.proofs.writer.put_rows.Given as goal

abbrev pub invariant-loop-done : goal.invariant-loop-done
invariant-loop-done l = record {
  below : l.done ≤ l.count;
  written : WritesRows l.done l.rest l.initial.bytes.items l.bytes.items l.turns;
}

abbrev pub decreases-loop-done : goal.decreases-loop-done
decreases-loop-done l = length l.rest - l.turns

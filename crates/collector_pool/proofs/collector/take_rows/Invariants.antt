use Rattle.std.proofs.Common.{◌≡◌, ◌≤◌}
use Rattle.collector_pool.proofs.collector.take_rows.Given as goal

abbrev pub invariant-loop-i : goal.invariant-loop-i
invariant-loop-i g l = record {
  since : l.committed ≤ l.i;
  fresh : g.O.Pass.stops l.pass ≡ 0;
}

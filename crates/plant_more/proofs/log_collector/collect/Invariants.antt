use Rattle.std.proofs.Common.{◌≡◌}
use Rattle.plant_more.proofs.log_collector.collect.Given as goal

abbrev pub invariant-loop-place : goal.invariant-loop-place
invariant-loop-place g l = g.O.Pass.stops l.pass ≡ 0

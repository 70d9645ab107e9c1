use Rattle.std.proofs.Common.{◌≡◌}
use Rattle.collector_pool.proofs.refresher.make_turns.Given as goal

abbrev pub invariant-loop-turn : goal.invariant-loop-turn
invariant-loop-turn g l = g.O.Pass.stops l.pass ≡ 0

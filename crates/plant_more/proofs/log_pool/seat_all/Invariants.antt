use Rattle.std.proofs.Common.{◌≡◌, vec_capacity, vec_len}
use Rattle.plant_more.specs.LogCrew.{AreSeated}
use Rattle.plant_more.proofs.log_pool.seat_all.Given as goal

abbrev pub invariant-loop-worker : goal.invariant-loop-worker
invariant-loop-worker g l = record {
  count : vec_len l.crew ≡ l.worker;
  room : vec_capacity l.crew ≡ vec_capacity l.initial.crew;
  seated : AreSeated g.P.One.Pass.stops l.crew.items;
  stops : g.P.Passes.stops l.passes ≡ g.P.Passes.stops l.initial.passes;
}

use Rattle.std.proofs.Common.{◌≡◌, List, vec_capacity, vec_len}
use Rattle.snapshot_table.specs.{Looking}
use Rattle.collector_pool.specs.{AreSeated}
use Rattle.collector_pool.proofs.session.seat_collectors.Given as goal

abbrev pub invariant-loop-collector : goal.invariant-loop-collector
invariant-loop-collector g l = record {
  count : vec_len l.seats ≡ l.collector;
  room : vec_capacity l.seats ≡ vec_capacity l.initial.seats;
  seated : (lookers : List Looking) → AreSeated g.P.One.Pass.stops l.work lookers l.seats.items;
  stops : g.P.Passes.stops l.passes ≡ g.P.Passes.stops l.initial.passes;
}

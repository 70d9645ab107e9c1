use Rattle.std.proofs.Common.{◌≡◌, ◌+◌, List, vec_capacity, vec_len}
use Rattle.snapshot_table.specs.{Looking}
use Rattle.collector_pool.specs.{AreSeated}
use Rattle.collector_pool.proofs.session.seat_refreshers.Given as goal

abbrev pub invariant-loop-refresher : goal.invariant-loop-refresher
invariant-loop-refresher g l = record {
  count : vec_len l.seats ≡ vec_len l.work.collectors + vec_len l.work.readers + l.refresher;
  room : vec_capacity l.seats ≡ vec_capacity l.initial.seats;
  seated : (lookers : List Looking) → AreSeated g.P.One.Pass.stops l.work lookers l.initial.seats.items
      → AreSeated g.P.One.Pass.stops l.work lookers l.seats.items;
  stops : g.P.Passes.stops l.passes ≡ g.P.Passes.stops l.initial.passes;
}

use Rattle.std.proofs.Common.{◌≡◌, ◌+◌, List, vec_capacity, vec_len}
use Rattle.std.specs.Prelude.{All}
use Rattle.std.specs.Vec.Iter.{into_iter_items, into_iter_len}
use Rattle.atomic_table.specs.Seated.{TableId}
use Rattle.snapshot_table.specs.{LooksAt}
use Rattle.collector_pool.specs.{AreSeated}
use Rattle.collector_pool.proofs.session.seat_readers.Given as goal

abbrev pub invariant-loop-reader : goal.invariant-loop-reader
invariant-loop-reader g l = record {
  count : vec_len l.seats ≡ vec_len l.work.collectors + l.reader;
  room : vec_capacity l.seats ≡ vec_capacity l.initial.seats;
  left : l.reader + into_iter_len l.rest ≡ vec_len l.work.readers;
  looks : (board : List TableId) → All (LooksAt board) l.fn.lookers.items → All (LooksAt board) (into_iter_items l.rest);
  seated : AreSeated g.P.One.Pass.stops l.work l.fn.lookers.items l.seats.items;
  stops : g.P.Passes.stops l.passes ≡ g.P.Passes.stops l.initial.passes;
}

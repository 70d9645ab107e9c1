use Rattle.std.proofs.Common.{◌≡◌, ◌≤◌, length, vec_capacity, vec_len}
use Rattle.snapshot_table.specs.{LooksAt}
use Rattle.collector_pool.specs.{AreSnapsOf, AreSnapsSeen, DoSnapsRise}
use Rattle.collector_pool.proofs.reader.answer_all.Given as goal

abbrev pub invariant-loop-i : goal.invariant-loop-i
invariant-loop-i g l = record {
  snaps : AreSnapsOf l.queries l.snaps.items;
  count : vec_len l.snaps ≡ l.i;
  room : length l.queries ≤ vec_capacity l.snaps;
  looks : LooksAt l.board l.looker;
  rise : DoSnapsRise l.queries l.snaps.items;
  seen : AreSnapsSeen l.queries l.snaps.items l.looker.seen;
  fresh : g.O.Pass.stops l.pass ≡ 0;
}

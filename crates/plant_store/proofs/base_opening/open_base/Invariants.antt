use Rattle.std.proofs.Common.{◌≡◌, ◌^◌, ◌<◌, ◌≤◌, length}
use Rattle.trend_num.specs.{most_stored}
use Rattle.plant_store.specs.Tags.{tag_records_in}
use Rattle.plant_store.proofs.TagTurns.{IsSoFar}
use Rattle.plant_store.proofs.base_opening.open_base.Given as goal

abbrev pub invariant-loop-def : goal.invariant-loop-def
invariant-loop-def g l = record {
  so_far : IsSoFar l.base.tags.items l.def-index (g.S.Store.device_at l.fn.store)
      (g.S.Store.device_at l.store) l.cores.items;
  count : length l.cores.items ≡ l.def-index;
  records : l.records ≡ tag_records_in l.cores.items;
  few : l.records ≤ most_stored;
  faults : g.S.Store.fault_count l.fn.store < 2 ^ 64
      → g.S.Store.fault_count l.store ≡ g.S.Store.fault_count l.fn.store;
}

use Rattle.std.proofs.Common.{◌≡◌, ℕ, List, map, length, take, drop, vec_capacity}
use Rattle.std.specs.Prelude.{IsTrue}
use Rattle.std.specs.Arc.{arc_value}
use Rattle.std.specs.Vec.Iter.{into_iter_items, into_iter_len}
use Rattle.snapshot_table.specs.{new_posters}
use Rattle.branded_disk.specs.{branded}
use Rattle.plant_store.specs.Tags.{AreOtherTagsSame}
use Rattle.plant_store.specs.{HasPlaces, texts, records_opened}
use Rattle.plant_store.proofs.CellHalts.{AreFirst}
use Rattle.plant_store.proofs.cell_turns.open_all.Given as goal

abbrev pub invariant-loop-def : goal.invariant-loop-def
invariant-loop-def g l = record {
  first : AreFirst (branded g.S.Dev.Disk.device g.K.Begun.before) l.tags l.def-index l.cells.items
      (g.S.Store.device_at l.fn.store);
  records : l.records ≡ records_opened l.cells.items;
  room : vec_capacity l.cells ≡ vec_capacity l.fn.cells;
  rooms : map (λ c. c.room) l.cells.items ≡ take l.def-index l.rooms;
  others : AreOtherTagsSame (take l.def-index l.tags) (g.S.Store.device_at l.fn.store) (g.S.Store.device_at l.store);
  places : HasPlaces (g.S.Store.has_place l.store) (take l.def-index (texts l.names));
  kept_places : (n : List ℕ) → IsTrue (g.S.Store.has_place l.fn.store n) → IsTrue (g.S.Store.has_place l.store n);
  posters : into_iter_items l.posters ≡ drop l.def-index (new_posters 0 (arc_value l.board));
  posters_count : into_iter_len l.posters ≡ length (into_iter_items l.posters);
  passed : g.S.Store.fault_count l.store ≡ g.S.Store.fault_count l.fn.store;
}

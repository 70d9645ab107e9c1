use Rattle.std.proofs.Common.{◌≡◌, ℕ, ◌+◌, List, length, vec_capacity}
use Rattle.std.specs.Prelude.{IsTrue}
use Rattle.std.specs.Vec.Iter.{into_iter_items, into_iter_len}
use Rattle.branded_disk.specs.{branded}
use Rattle.plant_store.specs.{texts}
use Rattle.plant_store.proofs.CellBacks.{AreClosed}
use Rattle.plant_store.proofs.cell_closing.close_cells.Given as goal

abbrev pub invariant-loop-cell : goal.invariant-loop-cell
invariant-loop-cell g l = record {
  closed : AreClosed (branded g.S.Dev.Disk.device g.K.Begun.before) (texts l.names) l.fn.cells.items
      (into_iter_items l.rest) l.histories.items (g.S.Store.device_at l.fn.store) (g.S.Store.device_at l.store)
      (g.S.Store.fault_count l.fn.store) (g.S.Store.fault_count l.store);
  count : into_iter_len l.rest + length l.histories.items ≡ length l.fn.cells.items;
  room : vec_capacity l.histories ≡ vec_capacity l.fn.histories;
  places : (n : List ℕ) → IsTrue (g.S.Store.has_place l.fn.store n) → IsTrue (g.S.Store.has_place l.store n);
}

abbrev pub decreases-loop-cell : goal.decreases-loop-cell
decreases-loop-cell g l = into_iter_len l.rest

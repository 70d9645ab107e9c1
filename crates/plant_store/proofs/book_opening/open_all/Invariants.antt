use Rattle.std.proofs.Common.{◌≡◌, ◌^◌, ◌<◌, ◌≤◌, ℕ, List, length, map, vec_capacity}
use Rattle.std.specs.Prelude.{IsTrue}
use Rattle.branded_disk.specs.{branded}
use Rattle.plant_store.specs.{HavePlaces}
use Rattle.plant_store.proofs.BookTurns.{IsSoFar}
use Rattle.plant_store.proofs.book_opening.open_all.Given as goal

abbrev pub invariant-loop-place : goal.invariant-loop-place
invariant-loop-place g l = record {
  so_far : IsSoFar (branded g.S.Dev.Disk.device g.K.Begun.before) l.groups l.names
      (map (λ r. r.now) l.records) (g.S.Store.device_at l.fn.store) (g.S.Store.device_at l.store) l.books.items;
  count : length l.books.items ≡ l.place;
  room : length l.groups ≤ vec_capacity l.books;
  places : HavePlaces l.place l.names (g.S.Store.has_place l.store);
  kept_places : (n : List ℕ) → IsTrue (g.S.Store.has_place l.fn.store n) → IsTrue (g.S.Store.has_place l.store n);
  faults : g.S.Store.fault_count l.fn.store < 2 ^ 64
      → g.S.Store.fault_count l.store ≡ g.S.Store.fault_count l.fn.store;
}

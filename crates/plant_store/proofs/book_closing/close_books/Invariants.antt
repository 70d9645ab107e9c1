use Rattle.std.proofs.Common.{◌≡◌, ◌≤◌, ◌+◌, length, vec_capacity, vec_len}
use Rattle.std.specs.Vec.Iter.{into_iter_items, into_iter_len}
use Rattle.branded_disk.specs.{branded}
use Rattle.plant_store.proofs.BookLoops.{AreGoingBack}
use Rattle.plant_store.proofs.BookReturns.{AreTold}
use Rattle.plant_store.proofs.book_closing.close_books.Given as goal

abbrev pub invariant-loop-book : goal.invariant-loop-book
invariant-loop-book g l = record {
  going : AreGoingBack (branded g.S.Dev.Disk.device g.K.Begun.before) l.names l.fn.books.items (into_iter_items l.rest) l.place
      (into_iter_len l.rest) (g.S.Store.device_at l.fn.store) (g.S.Store.device_at l.store) (g.S.Store.has_place l.fn.store)
      (g.S.Store.has_place l.store) (g.S.Store.fault_count l.fn.store) (g.S.Store.fault_count l.store);
  room : vec_len l.histories + into_iter_len l.rest ≤ vec_capacity l.histories;
  told : AreTold (branded g.S.Dev.Disk.device g.K.Begun.before) l.fn.books.items l.histories.items;
  as_many : length l.histories.items ≡ l.place;
}

abbrev pub decreases-loop-book : goal.decreases-loop-book
decreases-loop-book g l = into_iter_len l.rest

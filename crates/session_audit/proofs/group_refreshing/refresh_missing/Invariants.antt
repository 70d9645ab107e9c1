use Rattle.std.proofs.Common.{◌≡◌, ◌<◌, ◌≤◌, ℕ, [], get_or}
use Rattle.calc_refresh.specs.{lists_of}
use Rattle.group_book.specs.{ToldBook}
use Rattle.session_audit.specs.{AreEach, IsRefreshedMore, IsPulledMore, IsRefreshedTo, durable_lists}
use Rattle.session_audit.proofs.group_refreshing.refresh_missing.Given as goal

abbrev pub invariant-loop-group : goal.invariant-loop-group
invariant-loop-group g l = record {
  cells : AreEach IsPulledMore l.initial.cells l.cells;
  gained : AreEach IsRefreshedMore l.initial.books l.books;
  done : (k : ℕ) (d : ToldBook g.row.D.Denot) → k < l.group
      → IsRefreshedTo (durable_lists l.cells) (get_or (lists_of l.inputs) k []) (get_or l.turns k 0) (get_or l.books k d);
  to_come : (k : ℕ) (d : ToldBook g.row.D.Denot) → l.group ≤ k → get_or l.books k d ≡ get_or l.initial.books k d;
}

use Rattle.std.proofs.Common.{◌≡◌, ◌<◌, None, length}
use Rattle.calc_refresh.specs.{fault_of}
use Rattle.group_book.specs.{versions_of}
use Rattle.session_audit.specs.{AreEach, IsRefreshedMore, IsInputsOf, IsPulledMore, durable_lists, durable_numbers, refreshes}
use Rattle.session_audit.proofs.group_refreshing.refresh_group.Given as goal

abbrev pub invariant-loop-turn : goal.invariant-loop-turn
invariant-loop-turn g l = record {
  inputs : IsInputsOf (length l.cells) l.tags l.book;
  cells : AreEach IsPulledMore l.initial.cells l.cells;
  gained : IsRefreshedMore l.initial.book l.book;
  count : length (refreshes l.book.tape) ≡ l.turn;
  versions : length (refreshes l.initial.book.tape) < l.turn
      → versions_of l.book ≡ durable_numbers (durable_lists l.cells) l.tags;
  within : length (refreshes l.initial.book.tape) < l.turn → fault_of l.book.sheet ≡ None;
}

use Rattle.std.proofs.Common.{◌≤◌}
use Rattle.calc_refresh.specs.{lists_of}
use Rattle.session_audit.specs.BookOpenings.{AgreeIn}
use Rattle.session_audit.proofs.book_opening.count_same.Given as goal

abbrev pub invariant-loop-i : goal.invariant-loop-i
invariant-loop-i l = record {
  agree : AgreeIn l.i (lists_of l.found) (lists_of l.known) l.count;
  within : l.count ≤ l.i;
}

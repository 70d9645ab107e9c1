use Rattle.std.proofs.Common.{◌<◌, ◌≤◌, ℕ, length, get_or}
use Rattle.group_book.specs.{ToldBook}
use Rattle.session_audit.specs.{refreshes}
use Rattle.session_audit.proofs.group_turns.compare_turns.Given as goal

abbrev pub invariant-loop-group : goal.invariant-loop-group
invariant-loop-group g l =
    (k : ℕ) (d : ToldBook g.row.D.Denot) → k < l.group → length (refreshes (get_or l.books k d).tape) ≤ get_or l.turns k 0

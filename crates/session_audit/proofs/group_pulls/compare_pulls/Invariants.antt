use Rattle.std.proofs.Common.{◌<◌, ℕ, [], get_or}
use Rattle.calc_refresh.specs.{lists_of}
use Rattle.group_book.specs.{ToldBook}
use Rattle.session_audit.specs.Pulls.{AreInputsPulled}
use Rattle.session_audit.proofs.group_pulls.compare_pulls.Given as goal

abbrev pub invariant-loop-group : goal.invariant-loop-group
invariant-loop-group g l =
    (k : ℕ) (b : ToldBook g.row.D.Denot) → k < l.group → AreInputsPulled k (get_or (lists_of l.inputs) k []) l.cells (get_or l.books k b)

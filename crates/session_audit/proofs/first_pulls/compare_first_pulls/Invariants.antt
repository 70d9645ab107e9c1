use Rattle.std.proofs.Common.{◌≡◌, ◌<◌, ℕ, get_or}
use Rattle.tag_cell.specs.{ToldCell}
use Rattle.session_audit.specs.{takes_at_pull}
use Rattle.session_audit.proofs.first_pulls.compare_first_pulls.Given as goal

abbrev pub invariant-loop-tag : goal.invariant-loop-tag
invariant-loop-tag g l =
    (k : ℕ) (d : ToldCell g.row.D.Denot) → k < l.tag → takes_at_pull (get_or l.cells k d).opening (get_or l.cells k d).tape ≡ get_or l.rows k 0

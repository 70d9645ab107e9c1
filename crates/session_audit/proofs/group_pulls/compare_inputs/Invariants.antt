use Rattle.std.proofs.Common.{◌<◌, ℕ, get_or}
use Rattle.tag_cell.specs.{ToldCell as Cell}
use Rattle.session_audit.specs.Pulls.{IsPulledFrom}
use Rattle.session_audit.proofs.group_pulls.compare_inputs.Given as goal

abbrev pub invariant-loop-input : goal.invariant-loop-input
invariant-loop-input g l =
    (k : ℕ) (c : Cell g.row.C.Denot) → k < l.input → IsPulledFrom l.group k (get_or l.cells (get_or l.tags k 0) c) l.book

use Rattle.std.proofs.Common.{◌<◌, ℕ, get_or}
use Rattle.tag_cell.specs.{ToldCell}
use Rattle.session_audit.specs.{IsCommittedCell, AreLonger, IsCommitEntry}
use Rattle.session_audit.proofs.cell_committing.commit_cells.Given as goal

abbrev pub invariant-loop-tag : goal.invariant-loop-tag
invariant-loop-tag g l = record {
  committed : (i : ℕ) (d : ToldCell g.row.D.Denot) → i < l.tag → IsCommittedCell (get_or l.cells i d);
  longer : AreLonger IsCommitEntry l.initial.cells l.cells;
}

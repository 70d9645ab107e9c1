use Rattle.std.proofs.Common.{◌≡◌, drop, fold}
use Rattle.group_layout.specs.{block_lists_of, with_row}
use Rattle.group_layout.proofs.saved.put_rows.Given as goal

abbrev pub invariant-loop-row : goal.invariant-loop-row
invariant-loop-row l = fold with_row (block_lists_of l.cells) (drop l.row-index l.rows) ≡ fold with_row (block_lists_of l.initial.cells) l.rows

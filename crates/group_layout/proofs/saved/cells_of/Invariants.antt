use Rattle.std.proofs.Common.{◌≡◌, None, drop, fold, map, replicate}
use Rattle.group_layout.specs.{parts_of, block_lists_of, rows_of_blocks, with_row}
use Rattle.group_layout.proofs.saved.cells_of.Given as goal

abbrev pub invariant-loop-block : goal.invariant-loop-block
invariant-loop-block l =
    fold with_row (block_lists_of l.cells.items) (rows_of_blocks (map parts_of (drop l.block-index l.blocks)))
    ≡ fold with_row (replicate l.calcs (replicate l.windows None)) (rows_of_blocks (map parts_of l.blocks))

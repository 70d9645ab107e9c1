use Rattle.std.proofs.Common.{◌≡◌, ◌++◌, None, drop, fold, length, map, replicate, take, ◌∙◌, arith, take_at}
use Rattle.std.proofs.lemmas.List.{drop_all}
use Rattle.group_layout.specs.{parts_of, block_lists_of, rows_of_blocks, with_row}
use Rattle.group_layout.proofs.SavedRows.{next_block, lengths_saved, cells_saved}
use Rattle.group_layout.proofs.saved.cells_of.Goals as goal

pub loop-block-preserved : goal.loop-block-preserved
loop-block-preserved c =
    let old = c.loop-block.cells.items in
    let new = c.put_rows.new.cells in
    let written : take c.loop-block.cells.len (new ++ drop (length new) old) ≡ new
    = take_at new (drop (length new) old) c.loop-block.cells.len (omega arith) in
    next_block (block_lists_of old) _ c.args.blocks.now c.loop-block.block-index c.block-item.result c.loop-block-test.true
    (grind arith)
    ∙ c.loop-block.invariant

all_put : (c : goal.After-loop-block) → block_lists_of c.loop-block.cells.items
    ≡ fold with_row (replicate c.args.calcs (replicate c.args.windows None)) (rows_of_blocks (map parts_of c.args.blocks.now))
all_put c = grind (arith, drop_all)

pub returns-clause-lengths : goal.returns-clause-lengths
returns-clause-lengths c = lengths_saved _ c.args.calcs c.args.windows (map parts_of c.args.blocks.now) (all_put c)

pub returns-clause-cells : goal.returns-clause-cells
returns-clause-cells c = cells_saved _ c.args.calcs c.args.windows (map parts_of c.args.blocks.now) (all_put c)

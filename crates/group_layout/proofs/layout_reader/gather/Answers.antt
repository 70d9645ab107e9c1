use Rattle.std.proofs.Common.{◌≡◌, ◌<◌, ◌≤◌, map, sym, subst, arith}
use Rattle.group_layout.specs.{block_size, end_of, last_of, parts_of, unsaved}
use Rattle.group_layout.proofs.Walks.{last_fits}
use Rattle.group_layout.proofs.layout_reader.gather.Goals as goal
use Rattle.group_layout.proofs.layout_reader.gather.Goals.{After-last_or-last, In-Ok-None}

-- the block whose rows count is the last one, or that before any was saved
last_is : (c : After-last_or-last)
    → parts_of c.last_or-last.result.now ≡ last_of (unsaved c.args.inputs) (map parts_of c.args.blocks.now.list.items)
last_is c = grind arith

-- where a value is missing there is a window, and so that block is there
fits : (c : In-Ok-None)
    → parts_of c.last_or-last.result.now ≡ last_of (unsaved c.args.inputs) (map parts_of c.args.blocks.now.list.items)
    → block_size (parts_of c.last_or-last.result.now) ≤ end_of c.args.at (map parts_of c.args.blocks.now.list.items)
fits c last =
    let bs = map parts_of c.args.blocks.now.list.items in
    let missing = rw c.in-Ok-None.field-0-is at c.in-Ok-None.ensures.missing in
    subst (λ b. block_size b ≤ end_of c.args.at bs) (sym last)
    (last_fits c.args.at c.args.inputs missing.1 bs (subst (λ b. missing.1 < b.windows) last missing.3))

pub size_of_block-requires : goal.size_of_block-requires
size_of_block-requires c = grind (arith, fits, last_is)

pub overflow_sub-result : goal.overflow_sub-result
overflow_sub-result c = grind (arith, fits, last_is)

pub returns-in-Ok-None-clause-damaged : goal.returns-in-Ok-None-clause-damaged
returns-in-Ok-None-clause-damaged c = grind (arith, last_is, fits)

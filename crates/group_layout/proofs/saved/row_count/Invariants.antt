use Rattle.std.proofs.Common.{◌≡◌, ◌-◌, ◌^◌, length, map, min, take}
use Rattle.group_layout.specs.{parts_of, rows_of_blocks}
use Rattle.group_layout.proofs.saved.row_count.Given as goal

abbrev pub invariant-loop-block : goal.invariant-loop-block
invariant-loop-block l = l.rows ≡ min (length (rows_of_blocks (map parts_of (take l.block-index l.blocks)))) (2 ^ 64 - 1)

use Rattle.std.proofs.Common.{◌≤◌, length, map, vec_capacity}
use Rattle.group_layout.specs.{parts_of, AreRowsOf, block_lists_of}
use Rattle.group_layout.proofs.saved.rows_of.Given as goal

abbrev pub invariant-loop-calc_cells : goal.invariant-loop-calc_cells
invariant-loop-calc_cells l = record {
  room : l.calcs ≤ vec_capacity l.rows;
  rows : AreRowsOf (length l.yielded) l.windows (map parts_of l.blocks) (block_lists_of l.rows.items);
}

use Rattle.std.proofs.Common.{◌≡◌, ◌≤◌, Some, map, take, vec_capacity, vec_len, length}
use Rattle.group_layout.proofs.saved.whole_row.Given as goal

abbrev pub invariant-loop-cell : goal.invariant-loop-cell
invariant-loop-cell l = record {
  room : length l.cells ≤ vec_capacity l.row;
  len : vec_len l.row ≡ l.cell-index;
  row : map Some l.row.items ≡ take l.cell-index l.cells;
}

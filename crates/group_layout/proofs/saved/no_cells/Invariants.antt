use Rattle.std.proofs.Common.{◌≡◌, ◌≤◌, None, replicate, vec_capacity, vec_len}
use Rattle.group_layout.specs.{block_lists_of}
use Rattle.group_layout.proofs.saved.no_cells.Given as goal

abbrev pub invariant-loop : goal.invariant-loop
invariant-loop l = record {
  room : l.calcs ≤ vec_capacity l.cells;
  len : vec_len l.cells ≡ l.counter;
  cells : block_lists_of l.cells.items ≡ replicate l.counter (replicate l.windows None);
}

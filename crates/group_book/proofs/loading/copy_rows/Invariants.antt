use Rattle.std.proofs.Common.{◌≡◌, ◌≤◌, length, take, vec_capacity, vec_len}
use Rattle.calc_refresh.specs.{lists_of}
use Rattle.group_book.proofs.loading.copy_rows.Given as goal

abbrev pub invariant-loop-row : goal.invariant-loop-row
invariant-loop-row l = record {
  room : length l.rows ≤ vec_capacity l.copy;
  len : vec_len l.copy ≡ l.row-index;
  copied : lists_of l.copy.items ≡ lists_of (take l.row-index l.rows);
}

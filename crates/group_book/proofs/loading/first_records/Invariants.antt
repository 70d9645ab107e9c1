use Rattle.std.proofs.Common.{◌≡◌, ℕ, ◌<◌, ◌≤◌, List, get_or, length, take}
use Rattle.trend_num.specs.{Rec}
use Rattle.calc_refresh.specs.{lists_of}
use Rattle.group_book.specs.{cut}
use Rattle.group_book.proofs.loading.first_records.Given as goal

abbrev pub invariant-loop-i : goal.invariant-loop-i
invariant-loop-i l = record {
  copied : lists_of l.copies.items ≡ cut (take l.i l.versions) (take l.i (lists_of l.recovered));
  low : (k : ℕ) (rs : List Rec) → k < l.i → get_or l.versions k 0 ≤ length (get_or (lists_of l.recovered) k rs);
}

use Rattle.std.proofs.Common.{◌≡◌, ◌<◌, ◌≤◌, length, take}
use Rattle.late_insert.specs.{IsSmall, joined_of, pages_most, summaries_of}
use Rattle.late_insert.proofs.directory.joined_by.Given as goal

abbrev pub invariant-loop-i : goal.invariant-loop-i
invariant-loop-i l = record {
  some : 0 < l.i;
  upto : l.i ≤ length l.order;
  is : l.all ≡ joined_of (take l.i (summaries_of l.leaves l.order));
  small : IsSmall (pages_most l.i) l.all;
}

use Rattle.std.proofs.Common.{◌≤◌}
use Rattle.late_insert.specs.{extreme_of}
use Rattle.late_insert.proofs.Summing.{IsTotal}
use Rattle.late_insert.proofs.total.extreme_between.Given as goal

abbrev pub invariant-loop-i : goal.invariant-loop-i
invariant-loop-i l = record {
  total : IsTotal (extreme_of l.extreme) l.frame l.start l.i l.value;
  upto : l.i ≤ l.end;
}

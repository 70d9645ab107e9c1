use Rattle.std.proofs.Common.{◌≡◌, ◌-◌, ◌≤◌}
use Rattle.late_insert.specs.{rec_in}
use Rattle.trend_model.specs.{area}
use Rattle.late_insert.proofs.Summing.{IsTotal}
use Rattle.late_insert.proofs.total.area_between.Given as goal

abbrev pub invariant-loop-i : goal.invariant-loop-i
invariant-loop-i l = record {
  total : IsTotal (area l.step) l.frame l.start l.i l.area;
  upto : l.i ≤ l.end;
  last : l.before ≡ (rec_in l.frame (l.i - 1)).point;
}

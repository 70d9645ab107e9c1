use Rattle.std.proofs.Common.{◌≡◌, ◌-◌, true, false}
use Rattle.trend_model.specs.{area}
use Rattle.late_insert.specs.{rec_in, least_of, greatest_of}
use Rattle.late_insert.proofs.Summing.{IsTotal}
use Rattle.late_insert.proofs.total.totals_of.Given as goal

abbrev pub invariant-loop-i : goal.invariant-loop-i
invariant-loop-i l = record {
  line : IsTotal (area false) l.frame 0 l.i l.all.line;
  stair : IsTotal (area true) l.frame 0 l.i l.all.stair;
  low : IsTotal least_of l.frame 0 l.i l.all.low;
  high : IsTotal greatest_of l.frame 0 l.i l.all.high;
  last : l.before ≡ (rec_in l.frame (l.i - 1)).point;
}

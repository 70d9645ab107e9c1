use Rattle.std.proofs.Common.{◌≡◌, ◌≤◌, max}
use Rattle.std.specs.Prelude.{slice_range}
use Rattle.trend_model.specs.{points_of}
use Rattle.interp_read.proofs.list.copied.Given as goal

abbrev pub invariant-loop-i : goal.invariant-loop-i
invariant-loop-i l = record {
  items : l.list.items ≡ slice_range (points_of l.content.records) l.start l.i;
  reach : l.i ≤ max l.start l.stop;
}

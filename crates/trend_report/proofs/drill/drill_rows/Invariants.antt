use Rattle.std.proofs.Common.{◌≡◌, All}
use Rattle.trend_num.specs.{InRange}
use Rattle.trend_report.specs.{drill_points, IsNear, signal_at}
use Rattle.trend_report.proofs.drill.drill_rows.Given as goal

abbrev pub invariant-loop-place : goal.invariant-loop-place
invariant-loop-place l = record {
  rows : l.rows.items ≡ drill_points l.number l.tag l.place;
  signal : l.signal ≡ signal_at l.number l.tag l.place;
  near : IsNear l.place l.signal;
  in_range : All InRange l.rows.items;
}

use Rattle.std.proofs.Common.{All}
use Rattle.shift_calendar.specs.{shifts_over, AreWindows, IsWindowTimed}
use Rattle.shift_calendar.proofs.window.shift_windows.Given as goal

abbrev pub invariant-loop-k : goal.invariant-loop-k
invariant-loop-k l = record {
  windows : AreWindows l.cal.zone (shifts_over l.cal.starts l.day l.k) l.windows.items;
  timed : All IsWindowTimed l.windows.items;
}

use Rattle.std.proofs.Common.{List, ◌++◌, map, All}
use Rattle.shift_calendar.specs.{Shift, shift_at, below, AreWindows, IsWindowTimed}
use Rattle.shift_calendar.proofs.window.push_day.Given as goal

abbrev pub invariant-loop-place : goal.invariant-loop-place
invariant-loop-place l = record {
  added : (done : List Shift) → AreWindows l.calendar.zone done l.initial.windows.items
      → AreWindows l.calendar.zone (done ++ map (shift_at l.calendar.starts l.day) (below l.place)) l.windows.items;
  timed : All IsWindowTimed l.initial.windows.items → All IsWindowTimed l.windows.items;
}

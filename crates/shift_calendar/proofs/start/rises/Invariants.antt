use Rattle.std.proofs.Common.{◌≡◌, map, drop}
use Rattle.shift_calendar.specs.{rises_from}
use Rattle.shift_calendar.proofs.start.rises.Given as goal

abbrev pub invariant-loop-start : goal.invariant-loop-start
invariant-loop-start l =
    rises_from l.least (map (λ s. s.minute) (drop l.start-index l.starts)) ≡ rises_from 0 (map (λ s. s.minute) l.starts)

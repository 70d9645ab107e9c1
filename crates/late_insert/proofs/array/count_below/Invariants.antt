use Rattle.std.proofs.Common.{◌-◌}
use Rattle.late_insert.proofs.Halving.{IsHalving}
use Rattle.late_insert.proofs.array.count_below.Given as goal

abbrev pub invariant-loop-low : goal.invariant-loop-low
invariant-loop-low l = IsHalving l.xs l.x l.low l.high

abbrev pub decreases-loop-low : goal.decreases-loop-low
decreases-loop-low l = l.high - l.low

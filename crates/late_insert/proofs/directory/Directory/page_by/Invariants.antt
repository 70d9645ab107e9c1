use Rattle.std.proofs.Common.{◌-◌}
use Rattle.late_insert.specs.{begin_of}
use Rattle.late_insert.proofs.Halving.{IsHalved}
use Rattle.late_insert.proofs.directory.Directory.page_by.Given as goal

abbrev pub invariant-loop-low : goal.invariant-loop-low
invariant-loop-low l = IsHalved (begin_of l.key) l.self.items l.x l.low l.high

abbrev pub decreases-loop-low : goal.decreases-loop-low
decreases-loop-low l = l.high - l.low

use Rattle.std.proofs.Common.{◌≡◌, drop}
use Rattle.calc_refresh.specs.{lists_of, shape_fault}
use Rattle.calc_refresh.proofs.saved.shape_fault.Given as goal

abbrev pub invariant-loop-row : goal.invariant-loop-row
invariant-loop-row l = shape_fault l.windows (lists_of l.rows) ≡ shape_fault l.windows (lists_of (drop l.row-index l.rows))

use Rattle.std.proofs.Common.{◌≡◌, map, take}
use Rattle.calc_check.specs.Group.{calculation}
use Rattle.calc_check.proofs.definition.is_same_defs.Given as goal

abbrev pub invariant-loop-i : goal.invariant-loop-i
invariant-loop-i l = map calculation (take l.i l.a) ≡ map calculation (take l.i l.b)

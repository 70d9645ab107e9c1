use Rattle.std.proofs.Common.{◌≡◌, map, take}
use Rattle.calc_check.specs.Group.{calculation}
use Rattle.calc_check.proofs.definition.copied_defs.Given as goal

abbrev pub invariant-loop-def : goal.invariant-loop-def
invariant-loop-def l = map calculation l.copy.items ≡ map calculation (take l.def-index l.defs)

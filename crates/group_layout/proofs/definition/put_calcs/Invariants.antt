use Rattle.std.proofs.Common.{◌≡◌, ◌++◌, map, take}
use Rattle.calc_check.specs.Group.{calculation}
use Rattle.group_layout.specs.{calcs_text}
use Rattle.group_layout.proofs.definition.put_calcs.Given as goal

abbrev pub invariant-loop-calc : goal.invariant-loop-calc
invariant-loop-calc l = l.text.items ≡ l.initial.text.items ++ calcs_text (map calculation (take l.calc-index l.calcs))

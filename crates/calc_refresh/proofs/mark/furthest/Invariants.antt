use Rattle.std.proofs.Common.{◌≡◌, take}
use Rattle.calc_refresh.specs.{furthest}
use Rattle.calc_refresh.proofs.mark.furthest.Given as goal

abbrev pub invariant-loop-mark : goal.invariant-loop-mark
invariant-loop-mark l = l.reach ≡ furthest (take l.mark-index l.marks)

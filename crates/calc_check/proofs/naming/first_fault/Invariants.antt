use Rattle.std.proofs.Common.{◌≡◌, [], map, take, drop}
use Rattle.calc_check.specs.Group.{calculation, names_of, first_fault}
use Rattle.calc_check.proofs.naming.first_fault.Given as goal

abbrev pub invariant-loop-i : goal.invariant-loop-i
invariant-loop-i l =
    first_fault l.inputs [] (map calculation l.calcs)
    ≡ first_fault l.inputs (names_of (map calculation (take l.i l.calcs)))
    (map calculation (drop l.i l.calcs))

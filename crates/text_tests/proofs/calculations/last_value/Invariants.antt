use Rattle.std.proofs.Common.{◌≡◌, take}
use Rattle.sheet_law.specs.{points_in, values}
use Rattle.text_tests.proofs.calculations.last_value.Given as goal

abbrev pub invariant-loop-i : goal.invariant-loop-i
invariant-loop-i g l = l.lower.items ≡ take l.i (values l.group (points_in l.contents) l.from l.to)

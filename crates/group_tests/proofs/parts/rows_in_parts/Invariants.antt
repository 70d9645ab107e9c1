use Rattle.std.proofs.Common.{◌≡◌, length}
use Rattle.group_tests.proofs.parts.rows_in_parts.Given as goal

abbrev pub invariant-loop-ones : goal.invariant-loop-ones
invariant-loop-ones g l = length l.sheet.copies ≡ 2

use Rattle.std.proofs.Common.{◌≡◌, length}
use Rattle.group_tests.proofs.sheets.follow.Given as goal

abbrev pub invariant-loop-step : goal.invariant-loop-step
invariant-loop-step g l = length l.sheet.copies ≡ l.inputs

use Rattle.std.proofs.Common.{◌≡◌, take}
use Rattle.sheet_law.specs.{least}
use Rattle.calc_refresh.specs.{lists_of}
use Rattle.calc_refresh.proofs.Limits.{windows_by}
use Rattle.calc_refresh.proofs.saved.windows_of.Given as goal

abbrev pub invariant-loop-i : goal.invariant-loop-i
invariant-loop-i l = l.least ≡ least (take l.i (windows_by l.grid (lists_of l.copies)))

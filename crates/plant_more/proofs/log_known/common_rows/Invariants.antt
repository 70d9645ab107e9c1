use Rattle.std.proofs.Common.{◌≡◌, take}
use Rattle.plant_more.proofs.log_known.common_rows.Given as goal

abbrev pub invariant-loop-i : goal.invariant-loop-i
invariant-loop-i l = take l.i l.xs ≡ take l.i l.ys

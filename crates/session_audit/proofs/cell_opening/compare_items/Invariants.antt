use Rattle.std.proofs.Common.{◌≡◌, take}
use Rattle.session_audit.proofs.cell_opening.compare_items.Given as goal

abbrev pub invariant-loop-i : goal.invariant-loop-i
invariant-loop-i l = take l.i l.found ≡ take l.i l.known

use Rattle.std.proofs.Common.{take}
use Rattle.plant_more.specs.{row_lists_of}
use Rattle.plant_more.specs.LogFinding.{AreFound}
use Rattle.plant_more.proofs.log_finding.find_puts.Given as goal

abbrev pub invariant-loop-place : goal.invariant-loop-place
invariant-loop-place l = AreFound (row_lists_of l.files) (take l.place l.tape) l.next

use Rattle.std.proofs.Common.{◌≡◌, take}
use Rattle.session_report.specs.{held_points}
use Rattle.session_report.proofs.snap.held_points.Given as goal

abbrev pub invariant-loop-entry : goal.invariant-loop-entry
invariant-loop-entry l = l.points.items ≡ held_points (take l.entry-index l.tape)

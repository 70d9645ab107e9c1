use Rattle.group_tests.proofs.Checked.{AreChecked}
use Rattle.group_tests.proofs.spelled_frames.are_changes.Given as goal

abbrev pub invariant-loop-i : goal.invariant-loop-i
invariant-loop-i l = AreChecked l.windows l.changes l.i

use Rattle.crash_recovery.proofs.Takes.{IsTakenTo}
use Rattle.crash_recovery.proofs.replay.replay.Given as goal

abbrev pub invariant-loop-n : goal.invariant-loop-n
invariant-loop-n g l = IsTakenTo l.points l.n l.initial.core l.core

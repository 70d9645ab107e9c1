use Rattle.event_frames.specs.{AreSet}
use Rattle.event_frames.proofs.gap.first_gap.Given as goal

abbrev pub invariant-loop-k : goal.invariant-loop-k
invariant-loop-k l = AreSet l.flags l.start l.k

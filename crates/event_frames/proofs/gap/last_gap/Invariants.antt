use Rattle.event_frames.specs.{AreSet}
use Rattle.event_frames.proofs.gap.last_gap.Given as goal

abbrev pub invariant-loop-k : goal.invariant-loop-k
invariant-loop-k l = AreSet l.flags l.k l.end

use Rattle.std.proofs.Common.{arith}
use Rattle.event_frames.proofs.Framing.{true_within}
use Rattle.event_frames.proofs.near.frame_at.Goals as goal

pub returns-then-not-is_first-clause-all : goal.returns-then-not-is_first-clause-all
returns-then-not-is_first-clause-all c = grind (arith, true_within)

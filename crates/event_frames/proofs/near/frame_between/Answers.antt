use Rattle.std.proofs.Common.{arith}
use Rattle.event_frames.proofs.Framing.{frame_made, frame_short, frame_unique}
use Rattle.event_frames.proofs.near.frame_between.Goals as goal

pub returns-then-long-least-clause-all : goal.returns-then-long-least-clause-all
returns-then-long-least-clause-all c = grind (arith, frame_short)

pub returns-clause-frame : goal.returns-clause-frame
returns-clause-frame c = grind (arith, frame_made)

pub returns-clause-all : goal.returns-clause-all
returns-clause-all c = grind (arith, frame_unique, returns-clause-frame)

use Rattle.std.proofs.Common.{arith}
use Rattle.event_frames.proofs.Blocks.{over_written}
use Rattle.event_frames.proofs.levels.raise.Goals as goal

pub returns-clause-over : goal.returns-clause-over
returns-clause-over c = grind (arith, over_written)

use Rattle.std.proofs.Common.{arith}
use Rattle.event_frames.proofs.Blocks.{behind_all, behind_gap}
use Rattle.event_frames.proofs.levels.Levels.behind.Goals as goal

pub returns-in-Some : goal.returns-in-Some
returns-in-Some c = behind_gap c.args.self.now.truths c.args.at c.in-Some.gap c.in-Some.ensures.gap

pub returns-in-None : goal.returns-in-None
returns-in-None c = grind (arith, behind_all)

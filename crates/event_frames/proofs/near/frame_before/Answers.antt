use Rattle.std.proofs.Common.{arith}
use Rattle.event_frames.proofs.Framing.{starts_there}
use Rattle.event_frames.proofs.near.frame_before.Goals as goal

pub returns-then-seen-start-clause-all : goal.returns-then-seen-start-clause-all
returns-then-seen-start-clause-all c = λ f frame near low early.
    c.frame_at.ensures.all f frame near.ends
    (starts_there c.args.levels.now.truths c.args.least c.args.k c.start-start.result f c.start-start.ensures frame early near.ends)

pub returns-else-seen-start-clause-all : goal.returns-else-seen-start-clause-all
returns-else-seen-start-clause-all c = λ f frame near low early.
    let at = starts_there c.args.levels.now.truths c.args.least c.args.k c.start-start.result f c.start-start.ensures frame early near.ends in
    absurd (omega (arith, at, c.if-seen-start.false))

use Rattle.std.proofs.Common.{◌-◌, length}
use Rattle.event_frames.proofs.Nearing.{IsListed}
use Rattle.event_frames.proofs.near.push_all.Given as goal

abbrev pub invariant-loop-at : goal.invariant-loop-at
invariant-loop-at l = IsListed l.levels.truths l.least l.at l.frames.items

abbrev pub decreases-loop-at : goal.decreases-loop-at
decreases-loop-at l = length l.levels.truths - l.at

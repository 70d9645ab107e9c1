use Rattle.std.proofs.Common.{◌≡◌}
use Rattle.event_frames.proofs.Changing.{IsChangedSoFar}
use Rattle.event_frames.proofs.frames.put_changes.Given as goal

abbrev pub invariant-loop-change : goal.invariant-loop-change
invariant-loop-change l = IsChangedSoFar l.initial.levels.truths l.levels.truths l.changes l.change-index
    × (l.levels.room ≡ l.initial.levels.room)

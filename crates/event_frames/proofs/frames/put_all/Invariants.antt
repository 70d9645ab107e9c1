use Rattle.std.proofs.Common.{◌≡◌, map, take}
use Rattle.event_frames.specs.{is_true}
use Rattle.event_frames.proofs.frames.put_all.Given as goal

abbrev pub invariant-loop-k : goal.invariant-loop-k
invariant-loop-k l = (l.levels.truths ≡ map is_true (take l.k l.row)) × (l.levels.room ≡ l.initial.levels.room)

use Rattle.std.proofs.Common.{◌≡◌, ◌*◌, ◌≤◌, vec_len, vec_capacity}
use Rattle.event_frames.proofs.Nearing.{IsNearSoFar}
use Rattle.event_frames.proofs.near.push_near.Given as goal

abbrev pub invariant-loop-change : goal.invariant-loop-change
invariant-loop-change l = IsNearSoFar l.levels.truths l.least l.changes l.change-index l.seen l.frames.items
    × (vec_len l.frames ≤ 2 * l.change-index) × (vec_capacity l.frames ≡ vec_capacity l.initial.frames)

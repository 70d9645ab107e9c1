use Rattle.std.proofs.Common.{◌≡◌, ◌+◌, ◌≤◌, vec_len, vec_capacity}
use Rattle.event_frames.proofs.Differing.{IsMissingSoFar}
use Rattle.event_frames.proofs.difference.push_missing.Given as goal

abbrev pub invariant-loop-frame : goal.invariant-loop-frame
invariant-loop-frame l = IsMissingSoFar l.initial.edits.items l.edits.items l.came l.frames l.others l.frame-index l.place
    × (vec_len l.edits ≤ vec_len l.initial.edits + l.frame-index) × (vec_capacity l.edits ≡ vec_capacity l.initial.edits)

use Rattle.std.proofs.Common.{ℕ, ◌<◌, ◌≤◌, get_or}
use Rattle.event_frames.specs.{Frame}
use Rattle.event_frames.proofs.difference.place_from.Given as goal

abbrev pub invariant-loop-i : goal.invariant-loop-i
invariant-loop-i l = (j : ℕ) (d : Frame) → l.place ≤ j → j < l.i → (get_or l.frames j d).from < l.from

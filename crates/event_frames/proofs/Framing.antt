-- The frame that begins in a window.
use Rattle.std.proofs.Common.{◌≡◌, ℕ, ◌+◌, ◌-◌, ◌<◌, ◌≤◌, Bool, true, false, List, length, inl, inr, arith}
use Rattle.std.specs.Prelude.{◌==◌}
use Rattle.std.proofs.lemmas.Bool.{cases_order}
use Rattle.std.proofs.lemmas.List.{get_or_past, get_or_default}
use Rattle.event_frames.specs.{Frame, is_true_in, IsFrame, IsBehind, IsStart, is_set}

-- a window in which the calculation is true is there
pub true_within : (truths : List Bool) (k : ℕ) → is_true_in truths k ≡ true → k < length truths
true_within truths k is = grind (arith, get_or_past)

-- true windows from a first one on, before one that is not true, are a frame where they are enough
pub frame_made : (truths : List Bool) (least at behind : ℕ) → 1 ≤ least → ((j : ℕ) → j + 1 ≡ at → is_true_in truths j ≡ false)
    → IsBehind truths at behind → least ≤ behind - at
    → IsFrame truths least (record { from = at; upto = behind - 1; last = behind == length truths })
frame_made truths least at behind some first is long = grind arith

-- a frame ends before the window that is after the true ones
pub frame_ends : (truths : List Bool) (least at behind : ℕ) (f : Frame) → IsBehind truths at behind → IsFrame truths least f
    → f.from ≡ at → f.upto < behind
frame_ends truths least at behind f is frame from = grind arith

-- where they are too few, no frame begins there
pub frame_short : (truths : List Bool) (least at behind : ℕ) (f : Frame) → IsBehind truths at behind → behind - at < least
    → IsFrame truths least f → f.from ≡ at → ⊥
frame_short truths least at behind f is few frame from = grind (arith, frame_ends)

-- a frame does not continue after another one with the same first window
not_longer : (truths : List Bool) (least : ℕ) (f g : Frame) → IsFrame truths least f → IsFrame truths least g
    → f.from ≡ g.from → f.upto < g.upto → ⊥
not_longer truths least f g first second from less = grind arith

-- frames with the same windows are the same
frame_eq : (f g : Frame) → f.from ≡ g.from → f.upto ≡ g.upto → f.last ≡ g.last → f ≡ g
frame_eq f g from upto last = grind arith

-- one frame begins in a window at most
pub frame_unique : (truths : List Bool) (least : ℕ) (f g : Frame) → IsFrame truths least f → IsFrame truths least g
    → f.from ≡ g.from → f ≡ g
frame_unique truths least f g first second from = grind (arith, cases_order, frame_eq, not_longer)

-- a frame that begins at or before a window and reaches up to it begins where the true windows before it do
pub starts_there : (truths : List Bool) (least k s : ℕ) (f : Frame) → IsStart truths k s → IsFrame truths least f
    → f.from ≤ k → k ≤ f.upto + 1 → f.from ≡ s
starts_there truths least k s f is frame early reach =
    elim (cases_order f.from s) [
      | inl same ↦ same
      | inr apart ↦
          elim apart [
            | inl less ↦
                let gap : is_true_in truths (s - 1) ≡ false = is.gap (s - 1) (omega arith) in
                let in_it : is_true_in truths (s - 1) ≡ true =
                frame.inside (s - 1) (omega arith) (omega (arith, is.order)) in absurd (cc)
            | inr more ↦
                let there = true_within truths f.from (frame.inside f.from (omega arith) frame.order) in
                let gap : is_true_in truths (f.from - 1) ≡ false = frame.before (f.from - 1) (omega arith) in
                let set : is_set truths (f.from - 1) ≡ true = is.inside.all (f.from - 1) (omega arith) (omega arith) in
                let same : is_set truths (f.from - 1) ≡ is_true_in truths (f.from - 1) =
                get_or_default truths (f.from - 1) true false (omega arith) in absurd (cc)
          ]
    ]

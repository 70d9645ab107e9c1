-- The frames of a row.
use Rattle.std.specs.Prelude.{◌≡◌, ℕ, ◌+◌, ◌<◌, ◌≤◌, ◌==◌, Bool, true, false, List, length, All, AllPairs, Contains}
use Rattle.event_frames.specs.declared.frame.Frame.{Frame}
use Rattle.event_frames.specs.Row.{is_true_in}

-- a longest run of windows in which the calculation is true, with at least so many windows. The calculation is not true
-- in the window before the run, nor in the one after it
pub record IsFrame (truths : List Bool) (least : ℕ) (f : Frame) : Type 0 where
  pub order : f.from ≤ f.upto
  pub inside : (k : ℕ) → f.from ≤ k → k ≤ f.upto → is_true_in truths k ≡ true
  pub before : (k : ℕ) → k + 1 ≡ f.from → is_true_in truths k ≡ false
  pub behind : is_true_in truths (f.upto + 1) ≡ false
  pub long : least + f.from ≤ f.upto + 1
  pub last : f.last ≡ (f.upto + 1 == length truths)

-- these are all frames with the property P, and no others, ordered by first window
pub record IsListOf (P : Frame → Type 0) (fs : List Frame) : Type 0 where
  pub by_from : AllPairs (λ f g. f.from < g.from) fs
  pub only : All P fs
  pub all : (f : Frame) → P f → Contains fs f

-- these are the frames of a row
abbrev pub AreFrames : List Bool → ℕ → List Frame → Type 0
AreFrames truths least fs = IsListOf (IsFrame truths least) fs

-- for each window of a row, whether the calculation is true in it; and how many windows a frame has at least
pub record FramesState : Type 0 where
  pub truths : List Bool
  pub least : ℕ

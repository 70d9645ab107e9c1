-- Frames near changed windows, and lists of frames that are compared in order.
use Rattle.std.specs.Prelude.{◌≡◌, ℕ, pos, ◌+◌, ◌<◌, ◌≤◌, Bool, false, List, ◌++◌, length, map, slice_index_or, Contains, if◌then◌else◌}
use Rattle.trend_num.specs.declared.value.CalcValue.TheVariants.{Num}
use Rattle.event_frames.specs.declared.frame.Frame.{Frame}
use Rattle.event_frames.specs.declared.frame.Change.{Change}
use Rattle.event_frames.specs.declared.frame.Edit.{Edit}
use Rattle.event_frames.specs.declared.frame.Edit.TheVariants.{Gone, New}
use Rattle.event_frames.specs.Frames.{IsListOf}

-- a frame includes a window, or begins right after it, or ends right before it
pub record IsNear (k : ℕ) (f : Frame) : Type 0 where
  pub begins : f.from ≤ k + 1
  pub ends : k ≤ f.upto + 1

-- the default for a place at which there is no change
abbrev pub no_change : Change
no_change = record { k = 0; value = Num (pos 0) }

-- the window of the change at a place
abbrev pub window_of : List Change → ℕ → ℕ
window_of cs i = (slice_index_or cs i no_change).k

-- a window is that of one of the first n changes
abbrev pub IsChanged : List Change → ℕ → ℕ → Type 0
IsChanged cs n k = (i : ℕ) × (i < n) × (window_of cs i ≡ k)

-- a frame is near the window of one of the first n changes
pub record IsNearOne (cs : List Change) (n : ℕ) (f : Frame) : Type 0 where
  pub place : ℕ
  pub early : place < n
  pub near : IsNear (window_of cs place) f

-- a frame is one of the first n of a list
abbrev pub IsEarly : List Frame → ℕ → Frame → Type 0
IsEarly fs n f = (i : ℕ) × (i < n) × (slice_index_or fs i f ≡ f)

-- the edit of a frame that came, or went
abbrev pub edit_of : Bool → Frame → Edit
edit_of came f = if came then New f else Gone f

-- after the edits `before` come edits for those of the first n frames that are not among others
pub record AddsMissing (before after : List Edit) (came : Bool) (frames others : List Frame) (n : ℕ) : Type 0 where
  pub missing : List Frame
  pub edits : after ≡ before ++ map (edit_of came) missing
  pub few : length missing ≤ n
  pub are : IsListOf (λ f. IsEarly frames n f × ¬ Contains others f) missing

-- a row with the first n changes. A window that none of them changes stays as it was, and each new window is changed
pub record IsChangedAt (old new : List Bool) (cs : List Change) (n : ℕ) : Type 0 where
  pub same : (j : ℕ) → ¬ IsChanged cs n j → slice_index_or new j false ≡ slice_index_or old j false
  pub longer : length old ≤ length new
  pub grown : (j : ℕ) → length old ≤ j → j < length new → IsChanged cs n j

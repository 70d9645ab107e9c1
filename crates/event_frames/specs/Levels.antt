-- Flags over flags. Each flag of a level says of a block of the level below whether all flags there are set.
use Rattle.std.specs.Prelude.{◌≡◌, ℕ, ◌+◌, ◌*◌, ◌/◌, ◌<◌, ◌≤◌, Bool, true, false, List, length, slice_index_or}
use Rattle.event_frames.specs.Row.{is_true_in}

-- whether a flag is set. A flag that is not there counts as set
abbrev pub is_set : List Bool → ℕ → Bool
is_set flags k = slice_index_or flags k true

-- all flags from a place on and before another are set
pub record AreSet (flags : List Bool) (start end : ℕ) : Type 0 where
  pub all : (k : ℕ) → start ≤ k → k < end → is_set flags k ≡ true

-- the first gap from a place on: a flag that is not set
pub record IsGapFrom (flags : List Bool) (start gap : ℕ) : Type 0 where
  pub from : start ≤ gap
  pub unset : is_set flags gap ≡ false
  pub set : AreSet flags start gap

-- the last gap before a place
pub record IsGapBefore (flags : List Bool) (end gap : ℕ) : Type 0 where
  pub before : gap < end
  pub unset : is_set flags gap ≡ false
  pub set : AreSet flags (gap + 1) end

-- a level lies over another
pub record IsOver (below above : List Bool) : Type 0 where
  pub down : (b : ℕ) → is_set above b ≡ true → (k : ℕ) → k / 128 ≡ b → is_set below k ≡ true
  pub up : (b : ℕ) → ((k : ℕ) → k / 128 ≡ b → is_set below k ≡ true) → is_set above b ≡ true

-- three levels, with memory for so many flags in the lowest
pub record AreLevels (truths blocks groups : List Bool) (room capacity : ℕ) : Type 0 where
  pub over_truths : IsOver truths blocks
  pub over_blocks : IsOver blocks groups
  pub few : length truths ≤ room
  pub memory : room ≤ capacity
  pub block_room : room ≤ 128 * length blocks
  pub group_room : length blocks ≤ 128 * length groups

-- the lowest level, and how many flags have memory
pub record LevelsState : Type 0 where
  pub truths : List Bool
  pub room : ℕ

-- the window after the true ones that begin at a window
pub record IsBehind (truths : List Bool) (at behind : ℕ) : Type 0 where
  pub order : at ≤ behind
  pub within : behind ≤ length truths
  pub inside : (k : ℕ) → at ≤ k → k < behind → is_true_in truths k ≡ true
  pub gap : is_true_in truths behind ≡ false

-- the first of the windows right before k that are all true. A window that is not there counts as true
pub record IsStart (truths : List Bool) (k start : ℕ) : Type 0 where
  pub order : start ≤ k
  pub inside : AreSet truths start k
  pub gap : (j : ℕ) → j + 1 ≡ start → is_true_in truths j ≡ false

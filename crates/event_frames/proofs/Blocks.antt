-- Levels after a write, and the window after the true ones.
use Rattle.std.proofs.Common.{◌≡◌, ℕ, zero, suc, ◌*◌, ◌/◌, ◌<◌, ◌≤◌, Bool, true, false, List, [], ◌∷◌, ◌++◌, length, set, refl, arith}
use Rattle.std.specs.Prelude.{IsTrue, ◌↔◌}
use Rattle.std.proofs.lemmas.List.{get_or_past, get_or_default, get_or-set_same, get_or-set_other, length-set, length_push}
use Rattle.event_frames.specs.{AreLevels, AreSet, IsBehind, IsGapFrom, IsOver, is_set}

-- a gap is a flag that is there
pub gap_within : (flags : List Bool) (k : ℕ) → is_set flags k ≡ false → k < length flags
gap_within flags k unset = grind (arith, get_or_past)

-- a level stays over another one whose flags read the same, and so does another that reads the same
pub over_same : (below above below' above' : List Bool) → ((k : ℕ) → is_set below' k ≡ is_set below k)
    → ((k : ℕ) → is_set above' k ≡ is_set above k) → IsOver below above → IsOver below' above'
over_same below above below' above' low high over = grind arith

-- a flag after the others that is set changes nothing
pub set_behind : (flags : List Bool) (k : ℕ) → is_set (flags ++ true ∷ []) k ≡ is_set flags k
set_behind [] zero = refl
set_behind [] (suc k) = refl
set_behind (x ∷ flags) zero = refl
set_behind (x ∷ flags) (suc k) = set_behind flags k

-- a write of a flag, and of the one over its block
pub over_written : (below above : List Bool) (k : ℕ) (flag whole : Bool) → IsOver below above → k < length below
    → length below ≤ 128 * length above
    → (IsTrue whole ↔ ((j : ℕ) → j / 128 ≡ k / 128 → is_set (set below k flag) j ≡ true))
    → IsOver (set below k flag) (set above (k / 128) whole)
over_written below above k flag whole over within wide is = grind (arith, get_or-set_same, get_or-set_other)

-- the levels after a write
pub levels_written : (truths blocks groups blocks' groups' : List Bool) (room capacity k : ℕ) (holds whole : Bool)
    → AreLevels truths blocks groups room capacity → k < length truths
    → (IsTrue whole ↔ ((j : ℕ) → j / 128 ≡ k / 128 → is_set (set truths k holds) j ≡ true))
    → blocks' ≡ set blocks (k / 128) whole → length groups' ≡ length groups → IsOver blocks' groups'
    → AreLevels (set truths k holds) blocks' groups' room capacity
levels_written truths blocks groups blocks' groups' room capacity k holds whole is within iff written same over =
    grind (arith, length-set, over_written)

-- the levels with one window more in which the calculation is true
pub levels_pushed : (truths blocks groups truths' : List Bool) (room capacity capacity' : ℕ)
    → AreLevels truths blocks groups room capacity → length truths < room → truths' ≡ truths ++ true ∷ []
    → capacity' ≡ capacity → AreLevels truths' blocks groups room capacity'
levels_pushed truths blocks groups truths' room capacity capacity' is less pushed same =
    grind (arith, length_push, over_same, set_behind)

-- a gap is after the true windows
pub behind_gap : (truths : List Bool) (at gap : ℕ) → IsGapFrom truths at gap → IsBehind truths at gap
behind_gap truths at gap is = grind (arith, gap_within, get_or_default)

-- so is the end, where there is no gap
pub behind_all : (truths : List Bool) (at end : ℕ) → at ≤ length truths → end ≡ length truths → AreSet truths at (length truths)
    → IsBehind truths at end
behind_all truths at end within is set = grind (arith, get_or_default, get_or_past)

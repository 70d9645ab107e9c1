-- A row by the windows in which its calculation is true, and a row with changes.
use Rattle.std.specs.Prelude.{ℕ, pos, ◌+◌, ◌<◌, ◌≤◌, Bool, true, false, List, [], ◌∷◌, ◌++◌, length, map, max, if◌then◌else◌, fold, nat_lt, slice_index_or, slice_set}
use Rattle.std.specs.Ordering.{int_eq}
use Rattle.trend_num.specs.{CalcValue}
use Rattle.trend_num.specs.declared.value.CalcValue.TheVariants.{Num, Bad}
use Rattle.event_frames.specs.declared.frame.Change.{Change}

-- whether a calculation with this value is true: it is a number other than 0
abbrev pub is_true : CalcValue → Bool
is_true (Num n) = if int_eq n (pos 0) then false else true
is_true (Bad b) = false

-- for each window of a row, whether the calculation is true in it
abbrev pub truths_of : List CalcValue → List Bool
truths_of row = map is_true row

-- whether the calculation is true in a window. It is not true in a window that is not there
abbrev pub is_true_in : List Bool → ℕ → Bool
is_true_in truths k = slice_index_or truths k false

-- a list with this element at a place: it replaces the one there, or comes after the last
abbrev pub put_at : {X : Type 0} → List X → ℕ → X → List X
put_at xs k x = if nat_lt k (length xs) then slice_set xs k x else xs ++ x ∷ []

-- a row with changes
abbrev pub row_with : List CalcValue → List Change → List CalcValue
row_with row cs = fold (λ values c. put_at values c.k c.value) row cs

-- for each window, whether the calculation is true in it after these changes
abbrev pub truths_with : List Bool → List Change → List Bool
truths_with truths cs = fold (λ ts c. put_at ts c.k (is_true c.value)) truths cs

-- the windows of changes rise
abbrev pub AreRising : List Change → Type 0
AreRising cs = (i : ℕ) (d : Change) → i + 1 < length cs → (slice_index_or cs i d).k < (slice_index_or cs (i + 1) d).k

-- changes of a row of so many windows: they rise, and those that are new follow the last one without a gap
pub record IsChangeList (windows : ℕ) (cs : List Change) : Type 0 where
  pub rising : AreRising cs
  pub first : (d : Change) → 0 < length cs → (slice_index_or cs 0 d).k ≤ windows
  pub gapless : (i : ℕ) (d : Change) → i + 1 < length cs
      → (slice_index_or cs (i + 1) d).k ≤ max windows ((slice_index_or cs i d).k + 1)

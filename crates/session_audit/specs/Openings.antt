-- Cells and books compared with the copies of their openings.
use Rattle.std.specs.Prelude.{◌≡◌, ℕ, ◌<◌, List, length, slice_get, slice_index_or, Some}
use Rattle.plant_status.specs.{Unit, Seen}
use Rattle.plant_status.specs.declared.mismatch.Place.TheVariants.{Opening}
use Rattle.plant_status.specs.declared.status.Status.{Status}
use Rattle.plant_status.specs.declared.status.Status.TheVariants.{Mismatch}

-- each unit agrees with its copy, in the sense of `is`
pub record AreAsKept {C K : Type 0} (is : C → K → Type 0) (opened : List C) (known : List K) : Type 0 where
  pub each : (number : ℕ) (c : C) (k : K) → number < length opened → is (slice_index_or opened number c) (slice_index_or known number k)

-- the unit with this number is the first that differs from its copy, in the sense of `differs`; those before it agree with
-- theirs, in the sense of `is`
pub record IsMismatchOf {C K : Type 0} (is : C → K → Type 0) (differs : C → K → Seen → Seen → Type 0) (opened : List C) (known : List K)
    (number : ℕ) (kept told : Seen) : Type 0 where
  pub one : C
  pub copy : K
  pub there : slice_get opened number ≡ Some one
  pub copy_there : slice_get known number ≡ Some copy
  pub differing : differs one copy kept told
  pub front : (i : ℕ) (c : C) (k : K) → i < number → is (slice_index_or opened i c) (slice_index_or known i k)

-- a status reports the first unit that differs; `unit_of` names it by its number
abbrev pub IsOpeningMismatch : {C K : Type 0} → (ℕ → Unit) → (C → K → Type 0) → (C → K → Seen → Seen → Type 0) → List C → List K → Status
    → Type 0
IsOpeningMismatch unit_of is differs opened known (Mismatch (Opening unit) kept told) =
    (number : ℕ) × (unit ≡ unit_of number) × IsMismatchOf is differs opened known number kept told
IsOpeningMismatch unit_of is differs opened known other = ⊥

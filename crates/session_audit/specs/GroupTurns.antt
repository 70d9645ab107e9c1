-- How often groups were refreshed, compared with the plan.
use Rattle.std.specs.Prelude.{◌≡◌, ℕ, ◌<◌, ◌≤◌, List, length, nat_eq, slice_get, slice_index, slice_index_or, Some, if◌then◌else◌}
use Rattle.std.specs.List.{sum_by}
use Rattle.plant_status.specs.declared.mismatch.Place.TheVariants.{Turns}
use Rattle.plant_status.specs.{Seen}
use Rattle.plant_status.specs.declared.mismatch.Seen.TheVariants.{Number}
use Rattle.plant_status.specs.declared.status.Status.{Status}
use Rattle.plant_status.specs.declared.status.Status.TheVariants.{Mismatch}
use Rattle.collector_pool.specs.{Refresh}
use Rattle.group_book.specs.{Turn, ToldBook}
use Rattle.session_audit.specs.GroupTapes.{refreshes}

-- how many turns the refreshers of a group make together
abbrev pub turns_for : ℕ → List Refresh → ℕ
turns_for group refreshers = sum_by (λ r. if nat_eq r.group group then r.turns else 0) refreshers

-- no group was refreshed more often than it has turns
pub record IsWithinTurns {D : Type 0} (turns : List ℕ) (books : List (ToldBook D)) : Type 0 where
  pub each : (group : ℕ) (d : ToldBook D) → group < length books
      → length (refreshes (slice_index_or books group d).tape) ≤ slice_index turns group

-- A group was refreshed more often than it has turns. `kept` counts its refreshes, and `told` its turns.
pub record IsAboveTurns (turns : ℕ) (tape : List Turn) (kept told : Seen) : Type 0 where
  pub kept_is : kept ≡ Number (length (refreshes tape))
  pub told_is : told ≡ Number turns
  pub above : turns < length (refreshes tape)

-- the same of a book; those before it were not
pub record IsBookAbove {D : Type 0} (turns : List ℕ) (books : List (ToldBook D)) (group : ℕ) (kept told : Seen) : Type 0 where
  pub book : ToldBook D
  pub there : slice_get books group ≡ Some book
  pub above : IsAboveTurns (slice_index turns group) book.tape kept told
  pub front : (k : ℕ) (b : ToldBook D) → k < group → length (refreshes (slice_index_or books k b).tape) ≤ slice_index turns k

abbrev pub IsTurnsMismatch : {D : Type 0} → List ℕ → List (ToldBook D) → Status → Type 0
IsTurnsMismatch turns books (Mismatch (Turns group) kept told) = IsBookAbove turns books group kept told
IsTurnsMismatch turns books other = ⊥

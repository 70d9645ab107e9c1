-- How many values a tag had acknowledged when a group first pulled from it.
use Rattle.std.specs.Prelude.{◌≡◌, ◌≢◌, ℕ, ◌-◌, ◌<◌, List, [], ◌∷◌, length, slice_get, slice_index, slice_index_or, Some}
use Rattle.plant_status.specs.declared.status.Status.{Status}
use Rattle.tag_cell.specs.{Entry, TagOpening, ToldCell}
use Rattle.tag_cell.specs.declared.entry.Entry.TheVariants.{Take, Ask, Pull, Commit}
use Rattle.session_audit.specs.CellRefusals.{takes_mismatch}

-- how many events the last commit before the first pull acknowledges, or n if there is none; without a pull, the last commit
abbrev pub acked_at_pull : ℕ → List Entry → ℕ
acked_at_pull n [] = n
acked_at_pull n (Take collector row p held records ∷ tape) = acked_at_pull n tape
acked_at_pull n (Ask reader row query reply ∷ tape) = acked_at_pull n tape
acked_at_pull n (Pull group from upto ∷ tape) = n
acked_at_pull n (Commit moment acked ∷ tape) = acked_at_pull acked tape

-- how many takes that is since the opening
abbrev pub takes_at_pull : TagOpening → List Entry → ℕ
takes_at_pull o tape = acked_at_pull o.summary.taken tape - o.summary.taken

-- each tag had so many takes acknowledged when a group first pulled from it
pub record HaveFirstPulls {D : Type 0} (rows : List ℕ) (cells : List (ToldCell D)) : Type 0 where
  pub each : (tag : ℕ) (c : ToldCell D) → tag < length cells
      → takes_at_pull (slice_index_or cells tag c).opening (slice_index_or cells tag c).tape ≡ slice_index rows tag

-- a tag had another number; the status has both, and those before it had theirs
pub record IsFirstPullMismatch {D : Type 0} (rows : List ℕ) (cells : List (ToldCell D)) (why : Status) : Type 0 where
  pub tag : ℕ
  pub cell : ToldCell D
  pub there : slice_get cells tag ≡ Some cell
  pub told : why ≡ takes_mismatch tag (takes_at_pull cell.opening cell.tape) (slice_index rows tag)
  pub differ : takes_at_pull cell.opening cell.tape ≢ slice_index rows tag
  pub front : (k : ℕ) (c : ToldCell D) → k < tag
      → takes_at_pull (slice_index_or cells k c).opening (slice_index_or cells k c).tape ≡ slice_index rows k

-- The copy of a log's opening, and where a log differs from it.
use Rattle.std.specs.Prelude.{◌≡◌, ◌≢◌, ℕ, ◌<◌, ◌≤◌, List, [], ◌∷◌, length, take, slice_get, Some}
use Rattle.plant_status.specs.declared.unit.Unit.TheVariants.{Log as LogUnit}
use Rattle.plant_status.specs.declared.mismatch.Place.TheVariants.{Opening}
use Rattle.plant_status.specs.declared.mismatch.Seen.TheVariants.{Number}
use Rattle.plant_status.specs.declared.status.Status.{Status}
use Rattle.plant_status.specs.declared.status.Status.TheVariants.{Mismatch}
use Rattle.commit_log.specs.{ToldLog}
use Rattle.plant_more.specs.declared.log_known.KnownLog.{KnownLog}

-- the log's plant and opening are those of the copy
pub record IsAsKnown {D : Type 0} (l : ToldLog D) (k : KnownLog) : Type 0 where
  pub plant : l.plant ≡ k.plant.items
  pub tags : l.tags ≡ k.tags
  pub faults : l.faults ≡ k.faults
  pub moment : l.moment ≡ k.moment
  pub rows : l.opening ≡ k.rows.items

-- the longest common beginning of two lists has this length
pub record IsCommon {A : Type 0} (xs ys : List A) (n : ℕ) : Type 0 where
  pub within : n ≤ length xs
  pub within_other : n ≤ length ys
  pub same : take n xs ≡ take n ys
  pub longest : n < length xs → n < length ys → slice_get xs n ≢ slice_get ys n

-- The numbers that are compared in turn: how many tags the log has; the length of its text, and how much of its
-- beginning is that of the copy; the faults; the moment; how many rows its opening has, and how many of the first are
-- those of the copy.
abbrev pub found_numbers : {D : Type 0} → ToldLog D → ℕ → ℕ → List ℕ
found_numbers l text rows =
    l.tags ∷ length l.plant ∷ text ∷ l.faults ∷ l.moment ∷ length l.opening ∷ rows ∷ []

-- the same numbers of the copy itself
abbrev pub known_numbers : KnownLog → List ℕ
known_numbers k = k.tags ∷ length k.plant.items ∷ length k.plant.items ∷ k.faults ∷ k.moment ∷ length k.rows.items
    ∷ length k.rows.items ∷ []

-- the first place at which two lists of numbers differ: `kept` is the number found there, `told` the one wanted
pub record DifferAt (found wanted : List ℕ) (kept told : ℕ) : Type 0 where
  pub place : ℕ
  pub before : take place found ≡ take place wanted
  pub kept_is : slice_get found place ≡ Some kept
  pub told_is : slice_get wanted place ≡ Some told
  pub differ : kept ≢ told

abbrev pub FirstDiffer : List ℕ → List ℕ → Status → Type 0
FirstDiffer found wanted (Mismatch (Opening LogUnit) (Number kept) (Number told)) = DifferAt found wanted kept told
FirstDiffer found wanted other = ⊥

-- the log differs from the copy of its opening, and the status reports the first number that differs
pub record IsLogMismatch {D : Type 0} (l : ToldLog D) (k : KnownLog) (why : Status) : Type 0 where
  pub text : ℕ
  pub rows : ℕ
  pub text_is : IsCommon l.plant k.plant.items text
  pub rows_are : IsCommon l.opening k.rows.items rows
  pub first : FirstDiffer (found_numbers l text rows) (known_numbers k) why

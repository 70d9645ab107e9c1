-- How a log gets the rows that it lacks, and why it does not get them.
use Rattle.std.specs.Prelude.{◌≡◌, ℕ, ◌<◌, List, [], ◌∷◌, ◌++◌, All, length, sum_by, ⊤}
use Rattle.trend_num.specs.{InRange}
use Rattle.plant_status.specs.declared.unit.Unit.TheVariants.{Log as LogUnit}
use Rattle.plant_status.specs.declared.mismatch.Place.TheVariants.{Log as LogPlace}
use Rattle.plant_status.specs.declared.mismatch.Seen.TheVariants.{Number}
use Rattle.plant_status.specs.declared.status.Status.{Status}
use Rattle.plant_status.specs.declared.status.Status.TheVariants.{DeviceFault, Mismatch, WantOfMemory}
use Rattle.value_rows.specs.{RawRow}
use Rattle.commit_log.specs.declared.history.LogTurn.TheVariants.{Put}
use Rattle.commit_log.specs.{LogRow, puts, ToldLog}

-- how many rows the files of collectors have together
abbrev pub total_rows : List (List RawRow) → ℕ
total_rows files = sum_by length files

-- a row of one of so many tags, whose point is in range
pub record IsRowFor (tags : ℕ) (row : RawRow) : Type 0 where
  pub tag : row.tag < tags
  pub point : InRange row.point

-- each row of the files is such a row
abbrev pub AreRowsFor : ℕ → List (List RawRow) → Type 0
AreRowsFor tags files = All (All (IsRowFor tags)) files

-- a row is put, and nothing else has changed
abbrev pub IsRowPut : {D : Type 0} → LogRow → ToldLog D → ToldLog D → Type 0
IsRowPut row old new = new ≡ record old { tape = old.tape ++ Put row ∷ [] }

-- Why a row is not put, if the device of the log has counted so many faults. Either it has counted one; or the log has no room any more. Then as many
-- rows were put as it had room for, and they are fewer than have to be put in all. The status reports both numbers.
abbrev pub IsPutRefusal : {D : Type 0} → ℕ → ℕ → ToldLog D → Status → Type 0
IsPutRefusal faults total l (DeviceFault LogUnit) = 0 < faults
IsPutRefusal faults total l (Mismatch (LogPlace place) (Number kept) (Number told)) =
    (place ≡ length l.tape) × (kept ≡ length (puts l.tape)) × (kept ≡ l.room) × (told ≡ total) × (kept < told)
IsPutRefusal faults total l other = ⊥

-- why rows are not acknowledged, if the device of the log has counted so many faults: it has counted one, or there was no
-- memory
abbrev pub IsCommitRefusal : ℕ → Status → Type 0
IsCommitRefusal faults (DeviceFault LogUnit) = 0 < faults
IsCommitRefusal faults WantOfMemory = ⊤
IsCommitRefusal faults other = ⊥

-- What a worker leaves on the tape of a log.
use Rattle.std.specs.Prelude.{◌≡◌, ℕ, ◌+◌, ◌==◌, ◌||◌, ◌%◌, Bool, false, true, List, [], ◌∷◌, ◌++◌, All, length, slice_get, Some, ⊤}
use Rattle.value_rows.specs.{RawRow}
use Rattle.commit_log.specs.{LogRow, LogTurn, ToldLog, rows_waiting}
use Rattle.commit_log.specs.declared.history.LogTurn.TheVariants.{Put, Commit}

-- a row of a collector, by its number from 1, as a log has it
abbrev pub row_of : ℕ → ℕ → RawRow → LogRow
row_of collector number row = record { tag = row.tag; collector = collector; row = number; point = row.point }

-- whether a worker with so many rows commits after this one: its number is a multiple of 64, or it is the last
abbrev pub is_commit_due : ℕ → ℕ → Bool
is_commit_due number rows = (number % 64 == 0) || (number == rows)

-- a turn that is a commit
abbrev pub IsCommit : LogTurn → Type 0
IsCommit (Put row) = ⊥
IsCommit (Commit moment acked) = ⊤

-- the log's plant, opening and room are unchanged
pub record IsSameLog {D : Type 0} (old new : ToldLog D) : Type 0 where
  pub plant : new.plant ≡ old.plant
  pub tags : new.tags ≡ old.tags
  pub opening : new.opening ≡ old.opening
  pub moment : new.moment ≡ old.moment
  pub faults : new.faults ≡ old.faults
  pub room : new.room ≡ old.room

-- the tape has grown by commits alone
pub record IsCommitted {D : Type 0} (old new : ToldLog D) : Type 0 where
  pub more : List LogTurn
  pub each : All IsCommit more
  pub tape : new.tape ≡ old.tape ++ more
  pub same : IsSameLog old new

-- The row of a collector at this place is put. If a commit is due after it, all waiting rows are acknowledged.
pub record IsPutAt {D : Type 0} (collector : ℕ) (rows : List RawRow) (place : ℕ) (old new : ToldLog D) : Type 0 where
  pub row : RawRow
  pub put : ToldLog D
  pub there : slice_get rows place ≡ Some row
  pub appended : put ≡ record old { tape = old.tape ++ Put (row_of collector (place + 1) row) ∷ [] }
  pub committed : IsCommitted put new
  pub none_waits : is_commit_due (place + 1) (length rows) ≡ true → rows_waiting new ≡ 0
  pub unchanged : is_commit_due (place + 1) (length rows) ≡ false → new ≡ put

-- What the note of a worker contains: how many of its rows are done, and how it ended.
use Rattle.std.specs.Prelude.{◌≡◌, ◌≢◌, ℕ, ◌+◌, ◌<◌, true, List, map, fold, length, slice_get, slice_index_or, IsSomeAnd, Some, Vec}
use Rattle.std.specs.declared.alloc.Global.{Global}
use Rattle.value_rows.specs.{RawRow}
use Rattle.plant_status.specs.{sum_of_fault_counts}
use Rattle.commit_log.specs.{LogCommitNo, PutRowNo, LogRow, ToldLog, put_refusal}
use Rattle.commit_log.specs.declared.refusal.LogCommitNo.TheVariants as commit
use Rattle.plant_more.specs.declared.log_note.LogEnding.{LogEnding}
use Rattle.plant_more.specs.declared.log_note.LogEnding.TheVariants.{Ended, Halted, Put, Commit, WantOfMemory}
use Rattle.plant_more.specs.declared.log_note.LogNote.{LogNote}
use Rattle.plant_more.specs.LogTurns.{is_commit_due, row_of}

-- the rows of each collector
abbrev pub row_lists_of : List (Vec RawRow Global) → List (List RawRow)
row_lists_of collectors = map (λ rows. rows.items) collectors

-- a log refused to append this row
pub record RefusesPut (D : Type 0) (why : PutRowNo) (row : LogRow) : Type 0 where
  pub log : ToldLog D
  pub refused : put_refusal log row ≡ Some why

-- a log refused to commit, and is broken
pub record RefusesCommit (D : Type 0) (why : LogCommitNo) : Type 0 where
  pub known : why ≢ commit.WantOfMemory
  pub log : ToldLog D
  pub broken : log.failed ≡ true

-- why a worker with so many rows done was refused: at the put of its next row, or at the commit that was due after that
-- row
abbrev pub EndsAt : Type 0 → ℕ → List RawRow → ℕ → LogEnding → Type 0
EndsAt D collector rows done (Put why) =
    IsSomeAnd (slice_get rows done) (λ row. RefusesPut D why (row_of collector (done + 1) row))
EndsAt D collector rows done (Commit why) = (done < length rows) × (is_commit_due (done + 1) (length rows) ≡ true) × RefusesCommit D why
EndsAt D collector rows done WantOfMemory = (done < length rows) × (is_commit_due (done + 1) (length rows) ≡ true)
EndsAt D collector rows done Halted = ⊥
EndsAt D collector rows done Ended = ⊥

-- how a worker ends after so many of its rows
abbrev pub EndsWith : Type 0 → ℕ → List RawRow → ℕ → LogEnding → Type 0
EndsWith D collector rows done Ended = done ≡ length rows
EndsWith D collector rows done Halted = done < length rows
EndsWith D collector rows done ending = EndsAt D collector rows done ending

-- the note of the worker of this collector, which has these rows
pub record IsNoteOf (D : Type 0) (collector : ℕ) (rows : List RawRow) (n : LogNote) : Type 0 where
  pub numbered : n.worker ≡ collector
  pub ending : EndsWith D collector rows n.done n.ending

-- there is one note for each worker, in order
pub record AreLogNotesOf (D : Type 0) (files : List (List RawRow)) (notes : List LogNote) : Type 0 where
  pub count : length notes ≡ length files
  pub each : (place : ℕ) (rows : List RawRow) (n : LogNote) → place < length notes
      → IsNoteOf D place (slice_index_or files place rows) (slice_index_or notes place n)

-- how often the pass of a worker with this ending has stopped it
abbrev pub halts : LogEnding → ℕ
halts Halted = 1
halts ending = 0

-- how a worker ends after this refusal of its commit
abbrev pub ending_of_commit : LogCommitNo → LogEnding
ending_of_commit commit.WantOfMemory = WantOfMemory
ending_of_commit why = Commit why

-- the stops that passes count at first, plus those of these workers
abbrev pub log_stops_with : ℕ → List LogNote → ℕ
log_stops_with stops notes = fold (λ count n. sum_of_fault_counts count (halts n.ending)) stops notes

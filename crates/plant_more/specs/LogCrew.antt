-- What a worker has before it begins, and what it leaves.
use Rattle.std.specs.Prelude.{◌≡◌, ℕ, ◌<◌, List, length, slice_index_or}
use Rattle.value_rows.specs.{RawRow}
use Rattle.plant_more.specs.declared.log_worker.LogWorker.{LogWorker}
use Rattle.plant_more.specs.LogNotes.{IsNoteOf, halts}

-- a worker that may begin: its number is below the number of workers, and its pass has not stopped it
pub record IsReady {O : Type 0} (stops : O → ℕ) (workers : ℕ) (s : LogWorker O) : Type 0 where
  pub worker : s.note.worker < workers
  pub fresh : stops s.pass ≡ 0

-- each worker of a crew has its place as its number, and may begin
pub record AreSeated {O : Type 0} (stops : O → ℕ) (crew : List (LogWorker O)) : Type 0 where
  pub numbered : (place : ℕ) (s : LogWorker O) → place < length crew → (slice_index_or crew place s).note.worker ≡ place
  pub fresh : (place : ℕ) (s : LogWorker O) → place < length crew → stops (slice_index_or crew place s).pass ≡ 0

-- a worker has ended: its note fits the rows of its collector, and its pass has stopped it as often as the note says
pub record IsDone {O : Type 0} (D : Type 0) (stops : O → ℕ) (files : List (List RawRow)) (old new : LogWorker O) : Type 0 where
  pub note : (rows : List RawRow) → IsNoteOf D old.note.worker (slice_index_or files old.note.worker rows) new.note
  pub stopped : stops new.pass ≡ halts new.note.ending

-- all of a crew have ended
pub record AreDone {O : Type 0} (D : Type 0) (stops : O → ℕ) (files : List (List RawRow)) (old new : List (LogWorker O)) : Type 0 where
  pub each : (i : ℕ) (s : LogWorker O) → i < length old → IsDone D stops files (slice_index_or old i s) (slice_index_or new i s)

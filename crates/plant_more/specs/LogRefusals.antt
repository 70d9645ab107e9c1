-- What a log results in once its workers have ended, and why it is refused.
use Rattle.std.specs.Prelude.{◌≡◌, ◌≢◌, ℕ, ◌<◌, List, All, Any, length, Result, Ok, Err, ⊤}
use Rattle.std.specs.List.{AllWithin, HoldsAt}
use Rattle.plant_status.specs.declared.mismatch.Place.TheVariants.{Log as LogPlace, Opening}
use Rattle.plant_status.specs.declared.mismatch.Seen.TheVariants as seen
use Rattle.plant_status.specs.declared.status.Status.{Status}
use Rattle.plant_status.specs.declared.status.Status.TheVariants as status
use Rattle.value_rows.specs.{RawRow}
use Rattle.commit_log.specs.{ToldLog, rows_waiting}
use Rattle.plant_more.specs.declared.log_note.LogEnding.TheVariants.{Halted, WantOfMemory}
use Rattle.plant_more.specs.declared.log_note.LogNote.{LogNote}
use Rattle.plant_more.specs.LogNotes.{AreLogNotesOf, log_stops_with}
use Rattle.plant_more.specs.declared.log_known.KnownLog.{KnownLog}
use Rattle.plant_more.specs.LogFinding.{AreWhole, IsPutMismatch}
use Rattle.plant_more.specs.LogKnown.{IsAsKnown, IsLogMismatch}
use Rattle.plant_more.specs.LogMaking.{IsCommitRefusal, IsPutRefusal, total_rows}

-- ---- the notes of workers

-- these are the notes of all workers; the passes have counted one stop for each halted worker
pub record AreNotes (D : Type 0) (files : List (List RawRow)) (before now : ℕ) (notes : List LogNote) : Type 0 where
  pub of_all : AreLogNotesOf D files notes
  pub stopped : now ≡ log_stops_with before notes

-- the status names the first worker that its pass stopped, or reports that a worker found no memory
abbrev pub IsStop : List LogNote → Status → Type 0
IsStop notes (status.Halted worker) = (place : ℕ) × (place < length notes)
    × HoldsAt (λ n. (n.worker ≡ worker) × (n.ending ≡ Halted)) notes place × AllWithin (λ n. n.ending ≢ Halted) notes 0 place
IsStop notes status.WantOfMemory = Any (λ n. n.ending ≡ WantOfMemory) notes
IsStop notes other = ⊥

-- ---- what is done, and why it is not

-- of each collector all rows were put, in order, each once, and no others; and all rows are acknowledged
pub record ArePutsMade {D : Type 0} (files : List (List RawRow)) (l : ToldLog D) : Type 0 where
  pub whole : AreWhole files l.tape
  pub none_waits : rows_waiting l ≡ 0

-- no worker was stopped, and none lacked memory
pub record AreUnstopped (notes : List LogNote) : Type 0 where
  pub none_halted : All (λ n. n.ending ≢ Halted) notes
  pub all_found : All (λ n. n.ending ≢ WantOfMemory) notes

-- the refusals of a log whose device has counted so many faults, in order: a worker was stopped or found no memory; a row is not put; rows are not acknowledged
pub data IsRestRefusal {D : Type 0} (faults : ℕ) (files : List (List RawRow)) (notes : List LogNote) (l : ToldLog D) (why : Status)
    : Type 0 where
  OfStop : IsStop notes why → IsRestRefusal faults files notes l why
  OfPut : AreUnstopped notes → IsPutRefusal faults (total_rows files) l why → IsRestRefusal faults files notes l why
  OfCommit : AreUnstopped notes → IsCommitRefusal faults why → IsRestRefusal faults files notes l why

-- The refusals of a log whose device has counted so many faults, in order: the log differs from the copy of its opening; a put is not its collector's next row; one of
-- the refusals above. A lack of memory may come at any time.
pub data IsSettlingRefusal {D : Type 0} (faults : ℕ) (files : List (List RawRow)) (notes : List LogNote) (known : KnownLog)
    (l : ToldLog D) (why : Status) : Type 0 where
  OfOpening : IsLogMismatch l known why → IsSettlingRefusal faults files notes known l why
  OfFinding : IsAsKnown l known → IsPutMismatch files l.tape why → IsSettlingRefusal faults files notes known l why
  OfRest : IsAsKnown l known → IsRestRefusal faults files notes l why → IsSettlingRefusal faults files notes known l why
  OfMemory : why ≡ status.WantOfMemory → IsSettlingRefusal faults files notes known l why

-- the refusal is a mismatch of the opening
abbrev pub IsOpening : Status → Type 0
IsOpening (status.Mismatch (Opening unit) kept told) = ⊤
IsOpening other = ⊥

abbrev pub IsOfOpening : {T : Type 0} → Result T Status → Type 0
IsOfOpening (Ok x) = ⊥
IsOfOpening (Err why) = IsOpening why

-- The refusals after which the tape may have a put of no file. Two report a difference: the opening has changed, or a
-- put is not its collector's next row. The third is want of memory, which may come before the tape is compared with the
-- files.
abbrev pub MayBeForeignPut : Status → Type 0
MayBeForeignPut (status.Mismatch (Opening unit) kept told) = ⊤
MayBeForeignPut (status.Mismatch (LogPlace place) (seen.Put tag collector row point) told) = ⊤
MayBeForeignPut status.WantOfMemory = ⊤
MayBeForeignPut other = ⊥

abbrev pub AdmitsForeignPut : {T : Type 0} → Result T Status → Type 0
AdmitsForeignPut (Ok x) = ⊥
AdmitsForeignPut (Err why) = MayBeForeignPut why

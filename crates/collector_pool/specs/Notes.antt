-- What the note of a worker contains: how many steps it made, what a reader saw, and how the worker ended.
use Rattle.std.specs.Prelude.{◌≡◌, ◌⊎◌, ℕ, ◌+◌, ◌<◌, ◌≤◌, Bool, true, false, List, [], Any, IfSome, IsSomeAnd, Option, None, Some, Vec, is_some, length, map, slice_get, slice_index_or, slice_set, drop, fold, take, ⊤}
use Rattle.std.specs.declared.alloc.Global.{Global}
use Rattle.trend_num.specs.{most_records, Snap}
use Rattle.plant_status.specs.{sum_of_fault_counts}
use Rattle.value_rows.specs.{Query, RawRow}
use Rattle.value_rows.specs.declared.asked.Query.TheVariants as ask
use Rattle.tag_cell.specs.{CommitNo}
use Rattle.collector_pool.specs.declared.group_turns.TurnNo.{TurnNo}
use Rattle.collector_pool.specs.declared.group_turns.TurnNo.TheVariants as turn
use Rattle.collector_pool.specs.declared.note.CellNo.{CellNo}
use Rattle.collector_pool.specs.declared.note.CellNo.TheVariants as cell
use Rattle.collector_pool.specs.declared.note.Ending.{Ending}
use Rattle.collector_pool.specs.declared.note.Ending.TheVariants.{Ended, Halted, Tag, Group, WantOfMemory}
use Rattle.collector_pool.specs.declared.note.WorkerNote.{WorkerNote}
use Rattle.collector_pool.specs.declared.work.Refresh.{Refresh}
use Rattle.collector_pool.specs.declared.work.Work.{Work}
use Rattle.collector_pool.specs.Refusals.{ending_of_commit}
use Rattle.collector_pool.specs.Work.{worker_count}

-- ---- collectors

-- Why a tag may refuse a row. The number of `Full` is such that two records more are too many.
abbrev pub MayRefuseRow : CellNo → Type 0
MayRefuseRow (cell.Full records) = most_records < records + 2
MayRefuseRow (cell.RoomFull room) = ⊤
MayRefuseRow cell.Broken = ⊤
MayRefuseRow cell.DeviceFault = ⊥

-- a refusal for the tag of this row
pub record RefusesRow (row : RawRow) (tag : ℕ) (why : CellNo) : Type 0 where
  pub tag_is : tag ≡ row.tag
  pub may : MayRefuseRow why

-- a collector ends as after a refused commit of the tag
pub record IsRefusedCommit (tag : ℕ) (ending : Ending) : Type 0 where
  pub no : CommitNo
  pub ending_is : ending ≡ ending_of_commit tag no

-- a collector ends as after a refused commit of the tag of one of these rows
pub record EndsAtCommit (rows : List RawRow) (ending : Ending) : Type 0 where
  pub tag : ℕ
  pub of_a_row : Any (λ row. row.tag ≡ tag) rows
  pub refused : IsRefusedCommit tag ending

-- how a collector of these rows ends after it has taken so many
abbrev pub EndsCollector : List RawRow → ℕ → Ending → Type 0
EndsCollector rows taken Ended = taken ≡ length rows
EndsCollector rows taken Halted = taken < length rows
EndsCollector rows taken WantOfMemory = taken ≤ length rows
EndsCollector rows taken (Tag tag why) =
    IsSomeAnd (slice_get rows taken) (λ row. RefusesRow row tag why) ⊎ EndsAtCommit (take taken rows) (Tag tag why)
EndsCollector rows taken (Group group why) = ⊥

-- the note of a collector of these rows: it took so many of the first of them
pub record IsCollectorNote (rows : List RawRow) (n : WorkerNote) : Type 0 where
  pub ending : EndsCollector rows n.steps n.ending
  pub no_snaps : n.snaps.items ≡ []

-- ---- readers

-- whether a query asks for a snapshot
abbrev pub asks_snap : Query → Bool
asks_snap (ask.Snap tag) = true
asks_snap query = false

-- Each of these is of one of the first queries, in order: a snapshot if the query asks for one, and otherwise nothing.
abbrev pub AreSnapsOf : List Query → List (Option Snap) → Type 0
AreSnapsOf queries snaps = map is_some snaps ≡ map asks_snap (take (length snaps) queries)

-- of two snapshots of the same tag, the later one is not older
abbrev pub DoSnapsRise : List Query → List (Option Snap) → Type 0
DoSnapsRise queries snaps = (i j tag : ℕ) (first later : Snap) → i < j
    → slice_get queries i ≡ Some (ask.Snap tag) → slice_get queries j ≡ Some (ask.Snap tag)
    → slice_get snaps i ≡ Some (Some first) → slice_get snaps j ≡ Some (Some later) → first.taken ≤ later.taken

-- no snapshot among these is newer than the one of its tag that was seen last
abbrev pub AreSnapsSeen : List Query → List (Option Snap) → List Snap → Type 0
AreSnapsSeen queries snaps seen = (i tag : ℕ) (first last : Snap) → slice_get queries i ≡ Some (ask.Snap tag)
    → slice_get snaps i ≡ Some (Some first) → slice_get seen tag ≡ Some last → first.taken ≤ last.taken

-- If the query asks for a snapshot, this one is not older than the one of its tag that was seen last, and is now the one
-- seen last. Otherwise there is none, and nothing new was seen.
abbrev pub IsSeenNext : Query → List Snap → List Snap → Option Snap → Type 0
IsSeenNext (ask.Snap tag) old new (Some snap) = (tag < length old) × (new ≡ slice_set old tag snap)
    × IfSome (slice_get old tag) (λ last. last.taken ≤ snap.taken)
IsSeenNext (ask.Snap tag) old new None = ⊥
IsSeenNext query old new snap = (snap ≡ None) × (new ≡ old)

-- why a group made no turn or gave no answer, other than a lack of memory
abbrev pub IsOfGroup : TurnNo → Type 0
IsOfGroup turn.WantOfMemory = ⊥
IsOfGroup why = Unit {0}

-- the query is about this group
abbrev pub AsksGroup : ℕ → Query → Type 0
AsksGroup group (ask.Row asked calc k) = asked ≡ group
AsksGroup group query = ⊥

-- how a reader ends when this query is refused
abbrev pub EndsAtQuery : (ℕ → TurnNo → Type 0) → Query → Ending → Type 0
EndsAtQuery refuses query WantOfMemory = Unit {0}
EndsAtQuery refuses query (Group group why) = AsksGroup group query × IsOfGroup why × refuses group why
EndsAtQuery refuses query ending = ⊥

-- how a reader of these queries ends after it has answered so many
abbrev pub EndsReader : (ℕ → TurnNo → Type 0) → List Query → ℕ → Ending → Type 0
EndsReader refuses queries answered Ended = answered ≡ length queries
EndsReader refuses queries answered Halted = answered < length queries
EndsReader refuses queries answered WantOfMemory = answered < length queries
EndsReader refuses queries answered (Group group why) =
    IsSomeAnd (slice_get queries answered) (AsksGroup group) × IsOfGroup why × refuses group why
EndsReader refuses queries answered (Tag tag why) = ⊥

-- The note of a reader of these queries. It answered so many of the first of them, and has the snapshots that it saw. No
-- snapshot of a tag is older than an earlier one.
pub record IsReaderNote (refuses : ℕ → TurnNo → Type 0) (queries : List Query) (n : WorkerNote) : Type 0 where
  pub count : length n.snaps.items ≡ n.steps
  pub snaps : AreSnapsOf queries n.snaps.items
  pub rise : DoSnapsRise queries n.snaps.items
  pub ending : EndsReader refuses queries n.steps n.ending

-- ---- refreshers

-- how a refresher ends after so many turns
abbrev pub EndsRefresher : (ℕ → TurnNo → Type 0) → Refresh → ℕ → Ending → Type 0
EndsRefresher refuses refresh turns Ended = turns ≡ refresh.turns
EndsRefresher refuses refresh turns Halted = turns < refresh.turns
EndsRefresher refuses refresh turns WantOfMemory = turns < refresh.turns
EndsRefresher refuses refresh turns (Group group why) =
    (turns < refresh.turns) × (group ≡ refresh.group) × IsOfGroup why × refuses group why
EndsRefresher refuses refresh turns (Tag tag why) = ⊥

-- the note of a refresher
pub record IsRefresherNote (refuses : ℕ → TurnNo → Type 0) (refresh : Refresh) (n : WorkerNote) : Type 0 where
  pub ending : EndsRefresher refuses refresh n.steps n.ending
  pub no_snaps : n.snaps.items ≡ []

-- ---- a session

-- The note of the worker at this place. The work of a collector is its rows after those that it took in an earlier
-- phase.
pub record IsNoteAt (refuses : ℕ → TurnNo → Type 0) (w : Work) (place : ℕ) (n : WorkerNote) : Type 0 where
  pub numbered : n.worker ≡ place
  pub collector : (rows : Vec RawRow Global) → place < length w.collectors.items
      → IsCollectorNote (drop w.earlier (slice_index_or w.collectors.items place rows).items) n
  pub reader : (reader : ℕ) (queries : Vec Query Global) → reader < length w.readers.items
      → place ≡ length w.collectors.items + reader
      → IsReaderNote refuses (slice_index_or w.readers.items reader queries).items n
  pub refresher : (refresher : ℕ) (refresh : Refresh) → refresher < length w.refreshers.items
      → place ≡ length w.collectors.items + length w.readers.items + refresher
      → IsRefresherNote refuses (slice_index_or w.refreshers.items refresher refresh) n

-- the notes of all workers: first the collectors, then the readers, then the refreshers
pub record AreNotesOf (refuses : ℕ → TurnNo → Type 0) (w : Work) (notes : List WorkerNote) : Type 0 where
  pub count : length notes ≡ worker_count w
  pub each : (place : ℕ) (n : WorkerNote) → place < length notes
      → IsNoteAt refuses w place (slice_index_or notes place n)

-- how often the pass of a worker with this ending has stopped it
abbrev pub halts : Ending → ℕ
halts Halted = 1
halts ending = 0

-- the stops that passes count at first, plus those of these workers
abbrev pub stops_with : ℕ → List WorkerNote → ℕ
stops_with stops notes = fold (λ count n. sum_of_fault_counts count (halts n.ending)) stops notes

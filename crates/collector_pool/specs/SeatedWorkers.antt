-- What a worker has before it begins, and what it leaves.
use Rattle.std.specs.Prelude.{◌≡◌, ℕ, ◌+◌, ◌<◌, List, [], ◌∷◌, ◌++◌, All, Vec, drop, length, slice_index_or}
use Rattle.std.specs.declared.alloc.Global.{Global}
use Rattle.atomic_table.specs.Seated.{TableId}
use Rattle.value_rows.specs.{Query, RawRow}
use Rattle.snapshot_table.specs.{Looking, LooksAt}
use Rattle.collector_pool.specs.declared.group_turns.TurnNo.{TurnNo}
use Rattle.collector_pool.specs.declared.note.WorkerNote.{WorkerNote}
use Rattle.collector_pool.specs.declared.session_worker.Role.{Role}
use Rattle.collector_pool.specs.declared.session_worker.Role.TheVariants.{Collector, Reader, Refresher}
use Rattle.collector_pool.specs.declared.session_worker.SessionWorker.{SessionWorker}
use Rattle.collector_pool.specs.declared.work.Refresh.{Refresh}
use Rattle.collector_pool.specs.declared.work.Work.{Work}
use Rattle.collector_pool.specs.Notes.{IsCollectorNote, IsReaderNote, IsRefresherNote, halts}

-- the number of the worker with this role
abbrev pub worker_of : Work → Role → ℕ
worker_of w (Collector collector) = collector
worker_of w (Reader reader looker) = length w.collectors.items + reader
worker_of w (Refresher refresher) = length w.collectors.items + length w.readers.items + refresher

-- a role in this work; a reader's looker looks at this board
abbrev pub IsRoleOf : Work → List TableId → Role → Type 0
IsRoleOf w board (Collector collector) = collector < length w.collectors.items
IsRoleOf w board (Reader reader looker) = (reader < length w.readers.items) × LooksAt board looker
IsRoleOf w board (Refresher refresher) = refresher < length w.refreshers.items

-- the note of a worker with this role
abbrev pub IsNoteAs : (ℕ → TurnNo → Type 0) → Work → Role → WorkerNote → Type 0
IsNoteAs refuses w (Collector collector) n =
    (rows : Vec RawRow Global)
    → IsCollectorNote (drop w.earlier (slice_index_or w.collectors.items collector rows).items) n
IsNoteAs refuses w (Reader reader looker) n =
    (queries : Vec Query Global) → IsReaderNote refuses (slice_index_or w.readers.items reader queries).items n
IsNoteAs refuses w (Refresher refresher) n =
    (refresh : Refresh) → IsRefresherNote refuses (slice_index_or w.refreshers.items refresher refresh) n

-- a seat whose worker may begin
pub record IsReady {O : Type 0} (stops : O → ℕ) (w : Work) (board : List TableId) (s : SessionWorker O) : Type 0 where
  pub role : IsRoleOf w board s.role
  pub worker : s.note.worker ≡ worker_of w s.role
  pub fresh : stops s.pass ≡ 0

-- one more worker has a seat, with this role
pub record IsSeatedAs {O : Type 0} (stops : O → ℕ) (role : Role) (old new : List (SessionWorker O)) : Type 0 where
  pub seat : SessionWorker O
  pub seats : new ≡ old ++ seat ∷ []
  pub role_is : seat.role ≡ role
  pub worker : seat.note.worker ≡ length old
  pub fresh : stops seat.pass ≡ 0

-- The workers of these seats are numbered from 0. They may begin if the lookers look at the board.
pub record AreSeated {O : Type 0} (stops : O → ℕ) (w : Work) (lookers : List Looking) (seats : List (SessionWorker O)) : Type 0 where
  pub numbered : (place : ℕ) (d : SessionWorker O) → place < length seats → (slice_index_or seats place d).note.worker ≡ place
  pub ready : (board : List TableId) → All (LooksAt board) lookers → All (IsReady stops w board) seats

-- a seat whose worker has ended
pub record IsDone {O : Type 0} (refuses : ℕ → TurnNo → Type 0) (stops : O → ℕ) (w : Work)
    (old new : SessionWorker O) : Type 0 where
  pub worker : new.note.worker ≡ old.note.worker
  pub note : IsNoteAs refuses w old.role new.note
  pub stopped : stops new.pass ≡ halts new.note.ending

-- seats whose workers have ended
pub record AreDone {O : Type 0} (refuses : ℕ → TurnNo → Type 0) (stops : O → ℕ) (w : Work)
    (old new : List (SessionWorker O)) : Type 0 where
  pub each : (i : ℕ) (d : SessionWorker O) → i < length old
      → IsDone refuses stops w (slice_index_or old i d) (slice_index_or new i d)

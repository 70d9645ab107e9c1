-- Why a session is refused after its workers have ended.
use Rattle.std.specs.Prelude.{◌≡◌, List, [], All, length, Vec, Result, Ok, Err, ⊤}
use Rattle.std.specs.declared.alloc.Global.{Global}
use Rattle.trend_num.specs.declared.refusal.WantOfMemory.{WantOfMemory as NoMemory}
use Rattle.plant_status.specs.declared.status.Status.{Status}
use Rattle.plant_status.specs.declared.mismatch.Place.TheVariants.{Ask, Opening, RowAsk, Take}
use Rattle.plant_status.specs.declared.status.Status.TheVariants.{Mismatch, WantOfMemory}
use Rattle.session_audit.specs.Agendas.{ask_item, phase_item, row_item}
use Rattle.session_audit.specs.{Reached, Kept, IsAskMismatch, IsRowAskMismatch, IsTakeMismatch, IsCellRefusal, IsCommittedCell, IsTakeRefusal, AreUnfound, AreOver, KeptGroup, durable_lists, IsRefreshRefusal, IsTurnsMismatch, IsWithinTurns}
use Rattle.session_audit.specs.{IsCellAsKept, IsCellMismatch}
use Rattle.calc_refresh.specs.{lists_of}
use Rattle.tag_cell.specs.{ToldCell as Cell}
use Rattle.collector_pool.specs.{WorkerNote}
use Rattle.group_book.specs.{ToldBook as Book}
use Rattle.session_audit.specs.BookOpenings.{IsBookMismatch}
use Rattle.session_audit.specs.Pulls.{IsPullMismatch}
use Rattle.run_command.specs.declared.work.Given.{Given}
use Rattle.run_command.specs.Endings.{HaveAllEnded, IsStop}
use Rattle.run_command.specs.Steps.{AreCellAsksBegun, AreBegun, AreStepsMade, AreCellTakesBegun, AreTapesMade}
use Rattle.session_audit.specs.Openings.{AreAsKept}

-- The tapes differ from what the workers have to do, in this order: a take is not its collector's next row there; a
-- question about a tag, and then one on a group's tape, is not its reader's next one there; a group was refreshed more
-- often than it has turns. What comes before is as it should be.
pub data IsFindingRefusal {D : Type 0} (g : Given) (cells : List (Cell D)) (books : List (Book D)) (s : Status) : Type 0 where
  OfTake : (works : List Reached) → AreOver (phase_item g.work.earlier) (length cells) (lists_of g.work.collectors.items) works
      → AreUnfound (length cells) works → IsTakeMismatch cells works s → IsFindingRefusal g cells books s
  OfAsk : AreCellTakesBegun g cells → (works : List Reached) → AreOver ask_item (length cells) (lists_of g.work.readers.items) works
      → AreUnfound (length cells) works → IsAskMismatch cells works s → IsFindingRefusal g cells books s
  OfRowAsk : AreCellTakesBegun g cells → AreCellAsksBegun g cells → (works : List Reached) → AreOver row_item (length books) (lists_of g.work.readers.items) works
      → AreUnfound (length books) works → IsRowAskMismatch books works s → IsFindingRefusal g cells books s
  OfTurns : AreBegun g cells books → IsTurnsMismatch g.turns.items books s → IsFindingRefusal g cells books s

-- What the tapes lack cannot be done, in this order: a row is not taken; all is on the tapes, but a commit is refused; all
-- is committed too, but a refresh or a save is refused. A lack of memory may come at any time.
pub data IsMakingRefusal {D : Type 0} (g : Given) (cells : List (Cell D)) (books : List (Book D)) (s : Status) : Type 0 where
  OfTaking : IsTakeRefusal (phase_item g.work.earlier) (lists_of g.work.collectors.items) cells s
      → IsMakingRefusal g cells books s
  OfCommit : AreTapesMade g cells books → IsCellRefusal cells s → IsMakingRefusal g cells books s
  OfRefresh : AreTapesMade g cells books → All IsCommittedCell cells
      → IsRefreshRefusal (durable_lists cells) (lists_of g.inputs.items) g.turns.items books s → IsMakingRefusal g cells books s
  OfMemory : s ≡ WantOfMemory → IsMakingRefusal g cells books s

-- the refusals, in order: one that comes of the tapes; a worker was stopped or found no memory, and no group was refreshed
-- too often; what the tapes lack cannot be done; what a group has is not what it pulled of its inputs' tags. A lack of
-- memory may come at any time.
pub data IsRefused {D : Type 0} (g : Given) (notes : List WorkerNote) (cells : List (Cell D)) (books : List (Book D)) (s : Status)
    : Type 0 where
  OfFinding : IsFindingRefusal g cells books s → IsRefused g notes cells books s
  OfStop : IsWithinTurns g.turns.items books → IsStop notes s → IsRefused g notes cells books s
  OfMaking : HaveAllEnded notes → IsMakingRefusal g cells books s → IsRefused g notes cells books s
  OfPull : HaveAllEnded notes → AreStepsMade g cells books → IsPullMismatch (lists_of g.inputs.items) cells books s
      → IsRefused g notes cells books s
  OfWant : s ≡ WantOfMemory → IsRefused g notes cells books s

-- ---- comparison with the openings

-- the refusal is that of an opening that differs from its copy
abbrev pub IsOpening : Status → Type 0
IsOpening (Mismatch (Opening unit) kept told) = ⊤
IsOpening other = ⊥

abbrev pub IsOfOpening : {T : Type 0} → Result T Status → Type 0
IsOfOpening (Ok x) = ⊥
IsOfOpening (Err why) = IsOpening why

-- The refusals after which a tape may have a take or a question of no file: one that reports such an entry, or an opening
-- that has changed; and want of memory, which may come before the tapes are compared with the files.
abbrev pub MayBeForeign : Status → Type 0
MayBeForeign (Mismatch (Opening unit) kept told) = ⊤
MayBeForeign (Mismatch (Take tag place) kept told) = ⊤
MayBeForeign (Mismatch (Ask tag place) kept told) = ⊤
MayBeForeign (Mismatch (RowAsk group place) kept told) = ⊤
MayBeForeign WantOfMemory = ⊤
MayBeForeign other = ⊥

abbrev pub AdmitsForeign : {T : Type 0} → Result T Status → Type 0
AdmitsForeign (Ok x) = ⊥
AdmitsForeign (Err why) = MayBeForeign why

-- the notes of workers that began
abbrev pub notes_of : Result (Vec WorkerNote Global) NoMemory → List WorkerNote
notes_of (Ok notes) = notes.items
notes_of (Err why) = []

-- the opening of a tag or of a group differs from its copy; or one of the refusals above holds, or no worker began
pub data IsSettlingRefusal {D : Type 0} (g : Given) (notes : List WorkerNote) (known : List Kept) (known_groups : List KeptGroup)
    (cells : List (Cell D)) (books : List (Book D)) (s : Status) : Type 0 where
  OfTag : IsCellMismatch cells known s → IsSettlingRefusal g notes known known_groups cells books s
  OfGroup : AreAsKept IsCellAsKept cells known → IsBookMismatch books known_groups s → IsSettlingRefusal g notes known known_groups cells books s
  OfRest : IsRefused g notes cells books s → IsSettlingRefusal g notes known known_groups cells books s

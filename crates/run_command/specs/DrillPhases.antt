-- What two phases of a session come to.
use Rattle.std.specs.Prelude.{◌≡◌, ◌⊎◌, ℕ, List, [], ◌++◌}
use Rattle.std.specs.List.{AllZip}
use Rattle.plant_status.specs.declared.status.Status.{Status}
use Rattle.plant_status.specs.declared.status.Status.TheVariants.{WantOfMemory}
use Rattle.calc_refresh.specs.{lists_of}
use Rattle.collector_pool.specs.{WorkerNote}
use Rattle.collector_pool.specs.declared.work.Work.{Work}
use Rattle.group_book.specs.{ToldBook as Book}
use Rattle.tag_cell.specs.{ToldCell as Cell}
use Rattle.session_audit.specs.{IsFirstPullMismatch}
use Rattle.session_audit.specs.Pulls.{ArePulled}
use Rattle.run_command.specs.declared.work.Given.{Given}
use Rattle.run_command.specs.Runs.{IsContinued, IsContinuedGroup, IsUndone}
use Rattle.run_command.specs.Endings.{HaveAllEnded}
use Rattle.run_command.specs.Sessions.{AreNotes, AreNotesOfAll}
use Rattle.run_command.specs.Steps.{AreStepsMade}

-- the notes of a phase follow those that were there; the passes count one more stop for each of its workers that was
-- stopped
pub record AreNotesBehind (work : Work) (before now : ℕ) (front notes : List WorkerNote) : Type 0 where
  pub more : List WorkerNote
  pub behind : notes ≡ front ++ more
  pub are : AreNotes work before now more

-- the notes of the first phase, then those of the second, if it ran
pub record AreNotesOfBoth (first second : Work) (before now : ℕ) (notes : List WorkerNote) : Type 0 where
  pub between : ℕ
  pub front : List WorkerNote
  pub are_first : AreNotes first before between front
  pub are_second : AreNotesBehind second between now front notes

-- why a phase that continues from these cells, books and notes is not done
pub record IsUndoneBehind {D : Type 0} (g : Given) (cells : List (Cell D)) (books : List (Book D)) (front : List WorkerNote)
    (last : List (Cell D)) (last_books : List (Book D)) (notes : List WorkerNote) (why : Status) : Type 0 where
  pub more : List WorkerNote
  pub behind : notes ≡ front ++ more
  pub undone : IsUndone g cells books last last_books more why

-- the notes of all workers of the first phase, then those of all workers of the second
pub record AreNotesOfAllBoth (first second : Work) (notes : List WorkerNote) : Type 0 where
  pub front : List WorkerNote
  pub more : List WorkerNote
  pub behind : notes ≡ front ++ more
  pub of_first : AreNotesOfAll first front
  pub of_second : AreNotesOfAll second more

-- the notes of all workers of a phase, behind those that were there
pub record AreNotesOfAllBehind (work : Work) (front notes : List WorkerNote) : Type 0 where
  pub more : List WorkerNote
  pub behind : notes ≡ front ++ more
  pub are : AreNotesOfAll work more

-- these are the notes of all workers, or no worker began
abbrev pub AreAllOrNone : Work → List WorkerNote → Type 0
AreAllOrNone w notes = AreNotesOfAll w notes ⊎ (notes ≡ [])

-- Why two phases have no report. The first is not done, and no worker of the second began. Or the first is done with these
-- notes, its cells and books keep their openings, and the second is not done. Or both are done, and a tag had another
-- number of takes acknowledged than it has rows in the first phase, when a group first pulled from it. Or memory for the
-- report was wanting.
pub data IsUndoneOfBoth {D : Type 0} (first second : Given) (opened : List (Cell D)) (opened_books : List (Book D))
    (cells : List (Cell D)) (books : List (Book D)) (notes : List WorkerNote) (why : Status) : Type 0 where
  OfFirst : AreAllOrNone first.work notes → IsUndone first opened opened_books cells books notes why
      → IsUndoneOfBoth first second opened opened_books cells books notes why
  OfSecond : (between : List (Cell D)) (between_books : List (Book D)) (front : List WorkerNote)
      → AreNotesOfAll first.work front → HaveAllEnded front → AllZip IsContinued opened between → AllZip IsContinuedGroup opened_books between_books
      → AreStepsMade first between between_books → IsUndoneBehind second between between_books front cells books notes why
      → IsUndoneOfBoth first second opened opened_books cells books notes why
  OfFirstPull : AreNotesOfAllBoth first.work second.work notes → HaveAllEnded notes → AreStepsMade second cells books
      → ArePulled (lists_of second.inputs.items) cells books → IsFirstPullMismatch first.rooms.items cells why
      → IsUndoneOfBoth first second opened opened_books cells books notes why
  OfReport : why ≡ WantOfMemory → IsUndoneOfBoth first second opened opened_books cells books notes why

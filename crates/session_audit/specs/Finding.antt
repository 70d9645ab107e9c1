-- Entries on the tapes of all cells and books that are not the next rows of their workers.
use Rattle.std.specs.Prelude.{◌≡◌, ℕ, ◌<◌, List, length, slice_get, slice_index_or, Option, Some}
use Rattle.plant_status.specs.declared.mismatch.Place.TheVariants.{Take, Ask, RowAsk}
use Rattle.plant_status.specs.{Seen}
use Rattle.plant_status.specs.declared.status.Status.{Status}
use Rattle.plant_status.specs.declared.status.Status.TheVariants.{Mismatch}
use Rattle.tag_cell.specs.{ToldCell as Cell}
use Rattle.group_book.specs.{ToldBook as Book}
use Rattle.session_audit.specs.declared.kind.Shown.{Shown}
use Rattle.session_audit.specs.Found.{IsDifference, IsFirstPart, Reached, due_of, tape_shows}
use Rattle.session_audit.specs.Tapes.{ask_of, take_of}
use Rattle.session_audit.specs.Books.{book_tape}
use Rattle.session_audit.specs.Cells.{cell_tape}
use Rattle.session_audit.specs.GroupTapes.{row_ask_of}

-- the rows and the units of each worker have not changed
pub record AreSameRows (old new : List Reached) : Type 0 where
  pub as_many : length new ≡ length old
  pub items : (worker : ℕ) (p : Reached) → (slice_index_or new worker p).items ≡ (slice_index_or old worker p).items
  pub units : (worker : ℕ) (p : Reached) → length (slice_index_or new worker p).at ≡ length (slice_index_or old worker p).at

-- An entry of a unit's tape (`tape_of` has the tape of a unit) is not its worker's next row there. The tapes of the units
-- before it show first rows alone.
pub record IsMismatchAt {C E : Type 0} (tape_of : C → List E) (work : E → Option Shown) (units : List C)
    (works : List Reached) (unit place : ℕ) (kept told : Seen) : Type 0 where
  pub one : C
  pub there : slice_get units unit ≡ Some one
  pub differs : IsDifference work (due_of works unit) (tape_of one) place kept told
  pub front : (k worker : ℕ) (c : C) → k < unit → IsFirstPart (tape_shows work worker (tape_of (slice_index_or units k c))) (due_of works k worker)

-- the status reports such an entry, which is a take
abbrev pub IsTakeMismatch : {D : Type 0} → List (Cell D) → List Reached → Status → Type 0
IsTakeMismatch cells works (Mismatch (Take tag place) kept told) = IsMismatchAt cell_tape take_of cells works tag place kept told
IsTakeMismatch cells works other = ⊥

-- the status reports such an entry, which is a question about a tag
abbrev pub IsAskMismatch : {D : Type 0} → List (Cell D) → List Reached → Status → Type 0
IsAskMismatch cells works (Mismatch (Ask tag place) kept told) = IsMismatchAt cell_tape ask_of cells works tag place kept told
IsAskMismatch cells works other = ⊥

-- the status reports such an entry, which is a question on a group's tape
abbrev pub IsRowAskMismatch : {D : Type 0} → List (Book D) → List Reached → Status → Type 0
IsRowAskMismatch books works (Mismatch (RowAsk group place) kept told) =
    IsMismatchAt book_tape row_ask_of books works group place kept told
IsRowAskMismatch books works other = ⊥

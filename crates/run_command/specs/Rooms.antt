-- Room for the cells and books of a session, and on the tapes of its tags.
use Rattle.std.specs.Prelude.{◌≡◌, ℕ, ◌≤◌, List, [], vec_capacity}
use Rattle.std.specs.List.{AllZip}
use Rattle.tag_cell.specs.{ToldCell as Cell}
use Rattle.run_command.specs.declared.phase.Room.{Room}

-- each list is empty, and has room for the number of cells or books
pub record HasRoomFor {D : Type 0} (cells books : ℕ) (r : Room D) : Type 0 where
  pub no_locked_cells : r.locked_cells.items ≡ []
  pub no_locked_books : r.locked_books.items ≡ []
  pub no_cells : r.cells.items ≡ []
  pub no_books : r.books.items ≡ []
  pub locked_cells_room : cells ≤ vec_capacity r.locked_cells
  pub locked_books_room : books ≤ vec_capacity r.locked_books
  pub cells_room : cells ≤ vec_capacity r.cells
  pub books_room : books ≤ vec_capacity r.books

-- the tape of each tag can have so many takes
abbrev pub AreRoomy : {D : Type 0} → List ℕ → List (Cell D) → Type 0
AreRoomy takes cells = AllZip (λ n c. n ≤ c.room) takes cells

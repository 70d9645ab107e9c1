-- Giving back the devices of a plant.
use Rattle.std.specs.Prelude.{◌≡◌, ◌≢◌, ℕ, ◌<◌, ◌≤◌, true, List, All}
use Rattle.std.specs.List.{AllZip}
use Rattle.disk_model.specs.{Device}
use Rattle.tag_cell.specs.{ToldCell as Cell}
use Rattle.group_book.specs.{ToldBook as Book, faults_of}
use Rattle.plant_store.specs.CellClosings.{HasRisen, IsBackAt}
use Rattle.plant_store.specs.CellNames.{texts}
use Rattle.plant_store.specs.BookEndings.{AreGivenBack}
use Rattle.plant_store.specs.Groups.{DeviceTraces}
use Rattle.plant_store.specs.declared.shelf.Shelf.{Shelf}

-- The store has the device of each cell under the name of its tag. It has the device of each book, if there is one,
-- under the name of its group. Any other device is unchanged.
pub record AreDevicesBack {D : Type 0} (device : D → Device) (shelf : Shelf) (cells : List (Cell D)) (books : List (Book D))
    (old new : DeviceTraces) : Type 0 where
  pub of_tags : AllZip (λ name (c : Cell D). IsBackAt device new name c) (texts shelf.tag_names.items) cells
  pub of_groups : AreGivenBack device shelf.group_names.items books old new
  pub others : (n : List ℕ) → All (λ name. n ≢ name) (texts shelf.tag_names.items)
      → All (λ name. n ≢ name) (texts shelf.group_names.items) → new n ≡ old n

-- The store's fault count before these devices are given back, and after it. It never falls. If the journal of a cell
-- has failed, or the device of a book has counted a fault, it has risen or is the largest value of its type. It is
-- unchanged if no device has counted one.
pub record CountsClosed {D : Type 0} (device : D → Device) (cells : List (Cell D)) (books : List (Book D)) (before now : ℕ) : Type 0 where
  pub later : before ≤ now
  pub of_cells : All (λ (c : Cell D). c.journal.failed ≡ true → HasRisen before now) cells
  pub of_books : All (λ (b : Book D). 0 < faults_of device b.dev → HasRisen before now) books
  pub faultless : All (λ (c : Cell D). (device c.journal.dev).faults ≡ 0) cells → All (λ (b : Book D). faults_of device b.dev ≡ 0) books
      → now ≡ before

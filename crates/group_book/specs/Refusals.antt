-- Why a book is not refreshed.
use Rattle.std.specs.Prelude.{◌≡◌, ℕ, ◌<◌, List, length, slice_index, Option, Some}
use Rattle.calc_refresh.specs.{SheetNo, most_cells, most_copies}
use Rattle.calc_refresh.specs.declared.refusal.SheetNo.TheVariants as sheet
use Rattle.group_book.specs.declared.refusal.RefreshNo.{RefreshNo}
use Rattle.group_book.specs.declared.refusal.RefreshNo.TheVariants.{Ahead, CellLimit, CopyLimit, WantOfMemory}

-- the refusal of a book whose sheet takes no more records. `Shape` never comes here
abbrev pub refusal_of : SheetNo → RefreshNo
refusal_of (sheet.Shape windows rows) = WantOfMemory
refusal_of (sheet.CellLimit cells) = CellLimit cells
refusal_of (sheet.CopyLimit records) = CopyLimit records
refusal_of sheet.WantOfMemory = WantOfMemory

-- a fault of the sheet decides the refusal. Want of memory may come at any time
abbrev pub IsBookToldOf : Option SheetNo → RefreshNo → Type 0
IsBookToldOf fault (Ahead input version records) = ⊥
IsBookToldOf fault (CellLimit cells) = fault ≡ Some (sheet.CellLimit cells)
IsBookToldOf fault (CopyLimit records) = fault ≡ Some (sheet.CopyLimit records)
IsBookToldOf fault WantOfMemory = Unit {0}

-- the version of an input is above this number of records
pub record IsAheadOf (versions : List ℕ) (input version records : ℕ) : Type 0 where
  pub within : input < length versions
  pub own : version ≡ slice_index versions input
  pub above : records < version

-- why nothing is pulled for an input of this version
abbrev pub IsAheadAt : ℕ → ℕ → RefreshNo → Type 0
IsAheadAt input from (Ahead at version records) = (at ≡ input) × (version ≡ from) × (records < from)
IsAheadAt input from (CellLimit cells) = ⊥
IsAheadAt input from (CopyLimit records) = ⊥
IsAheadAt input from WantOfMemory = Unit {0}

-- why not all is pulled for inputs of these versions
abbrev pub IsPullCause : List ℕ → RefreshNo → Type 0
IsPullCause versions (Ahead input version records) = IsAheadOf versions input version records
IsPullCause versions (CellLimit cells) = ⊥
IsPullCause versions (CopyLimit records) = ⊥
IsPullCause versions WantOfMemory = Unit {0}

-- why a book of these versions is not refreshed
abbrev pub IsRefreshCause : List ℕ → RefreshNo → Type 0
IsRefreshCause versions (Ahead input version records) = IsAheadOf versions input version records
IsRefreshCause versions (CellLimit cells) = most_cells < cells
IsRefreshCause versions (CopyLimit records) = most_copies < records
IsRefreshCause versions WantOfMemory = Unit {0}

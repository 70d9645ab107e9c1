-- What a save writes: the rows that changed since the last one.
use Rattle.std.specs.Prelude.{◌≡◌, ◌≢◌, ℕ, pos, ◌+◌, ◌<◌, ◌≤◌, true, false, List, ◌∷◌, ◌++◌, [], All, AllPairs, length, None, Some}
use Rattle.trend_num.specs.declared.value.Bad.TheVariants.{NoData, DivZero, Range}
use Rattle.trend_num.specs.{CalcValue}
use Rattle.trend_num.specs.declared.value.CalcValue.TheVariants.{Num, Bad}
use Rattle.disk_model.specs.{Sees, open_byte, seen, written, moment, Device}
use Rattle.sheet_law.specs.{column, complete_windows}
use Rattle.group_layout.specs.{BlockRow, AreRows, IsBefore, IsRow, BlockParts, block_image, block_size, comes_before, cell_of, listed_from}
use Rattle.group_book.specs.declared.turn.Turn.TheVariants.{Save}
use Rattle.group_book.specs.Histories.{AreValuesInRange}
use Rattle.group_book.specs.Told.{ToldBook, versions_of}

-- ---- which rows changed

-- a row with this value of a calculation in a window
abbrev pub row_of : ℕ → ℕ → CalcValue → BlockRow
row_of calc k (Num n) = record { calc = calc; window = k; kind = 0; value = n }
row_of calc k (Bad NoData) = record { calc = calc; window = k; kind = 1; value = pos 0 }
row_of calc k (Bad DivZero) = record { calc = calc; window = k; kind = 2; value = pos 0 }
row_of calc k (Bad Range) = record { calc = calc; window = k; kind = 3; value = pos 0 }

-- a cell that changed is listed with its new value, and any other cell is not listed
pub data IsListed (old new : List (List CalcValue)) (rows : List BlockRow) (calc k : ℕ) : Type 0 where
  IsSame : cell_of new calc k ≡ cell_of old calc k → listed_from None rows calc k ≡ None → IsListed old new rows calc k
  IsOther : cell_of new calc k ≢ cell_of old calc k → listed_from None rows calc k ≡ cell_of new calc k → IsListed old new rows calc k

-- rows that list the cells that changed, of so many calculations in so many windows, sorted and each once
pub record ListsChanges (calcs windows : ℕ) (old new : List (List CalcValue)) (rows : List BlockRow) : Type 0 where
  pub listed : (calc k : ℕ) → calc < calcs → k < windows → IsListed old new rows calc k
  pub rows_are : AreValuesInRange new → AreRows calcs windows rows

-- the rows so far list exactly what changed in the calculations before `calc`, and in the windows of `calc` before `k`
pub record ListedUpTo (old new : List (List CalcValue)) (calcs windows calc k : ℕ) (rows : List BlockRow) : Type 0 where
  pub before : (x y : ℕ) → y < windows → comes_before x y calc k ≡ true → IsListed old new rows x y
  pub behind : (x y : ℕ) → comes_before x y calc k ≡ false → listed_from None rows x y ≡ None
  pub each : AreValuesInRange new → All (IsRow calcs windows) rows
  pub sorted : AllPairs IsBefore rows
  pub low : All (λ r. comes_before r.calc r.window calc k ≡ true) rows

-- these windows rise from one place on and lie before another one, and of the windows there that they leave out none has
-- changed
abbrev pub HasAllChanges : List (List CalcValue) → List (List CalcValue) → ℕ → ℕ → List ℕ → Type 0
HasAllChanges old new from to [] = (k : ℕ) → from ≤ k → k < to → column k old ≡ column k new
HasAllChanges old new from to (k ∷ ks) = (from ≤ k) × (k < to) × ((j : ℕ) → from ≤ j → j < k → column j old ≡ column j new)
    × HasAllChanges old new (k + 1) to ks

-- ---- what is saved

-- the block of a save: the next number, the versions, how many windows are complete, and the rows that changed
pub record IsBlockOf {D : Type 0} (s : ToldBook D) (b : BlockParts) : Type 0 where
  pub number : b.number ≡ s.saved.number + 1
  pub versions : b.versions ≡ versions_of s
  pub windows : b.windows ≡ complete_windows s.sheet.grid s.sheet.copies
  pub rows : ListsChanges (length s.sheet.group.calcs) b.windows s.saved.rows s.sheet.rows b.rows

-- a book on a device has saved its rows as a block. The device then has the block after an open gate, and a later
-- clock. The tape has the block's number and that clock
pub record IsSaved {D : Type 0} (device : D → Device) (before : D) (old new : ToldBook D) : Type 0 where
  pub after : D
  pub block : BlockParts
  pub block_is : IsBlockOf old block
  pub later : moment (device before).trace < moment (device after).trace
  pub wrote : Sees (device after).trace (written (written (seen (device before).trace) (old.saved.end + 1) (block_image block ++ 0 ∷ []))
      old.saved.end (open_byte ∷ []))
  pub changed : new ≡ record old {
    tape = old.tape ++ Save block.number (moment (device after).trace) ∷ [];
    dev = Some after;
    saved = record {
      number = block.number;
      versions = versions_of old;
      rows = old.sheet.rows;
      end = old.saved.end + block_size block;
    };
  }

-- a call of the book's device failed: nothing else changed
pub record IsBookFaulted {D : Type 0} (old new : ToldBook D) : Type 0 where
  pub failed : new.failed ≡ true
  pub changed : new ≡ record old { dev = new.dev; failed = true }

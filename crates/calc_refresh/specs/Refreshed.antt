-- What more records do to a sheet, and when the sheet refuses them.
use Rattle.std.specs.Prelude.{◌≡◌, ℕ, ◌+◌, ◌-◌, ◌*◌, ◌^◌, ◌<◌, ◌≤◌, min, true, false, not, ◌==◌, List, [], length, map, filter, find, Option, None, Some, nat_lt, if◌then◌else◌, All, Vec, vec_len, vec_capacity, slice_index_or}
use Rattle.std.specs.List.{range_with_len}
use Rattle.std.specs.Option.{option_map}
use Rattle.std.specs.declared.alloc.Global.{Global}
use Rattle.trend_num.specs.{Rec, CalcValue}
use Rattle.trend_model.specs.{ContentState}
use Rattle.calc_check.specs.Group.{Group}
use Rattle.sheet_law.specs.{Grid, complete_windows, window_from, window_to, any_touched, longer, IsScratch, column, due_below, is_due, values_at}
use Rattle.calc_refresh.specs.declared.refusal.SheetNo.{SheetNo}
use Rattle.calc_refresh.specs.declared.refusal.SheetNo.TheVariants.{Shape, CellLimit, CopyLimit, WantOfMemory}
use Rattle.calc_refresh.specs.Lists.{total_length}
use Rattle.calc_refresh.specs.Sheet.{AreRowsWhole, SheetState}

-- how many cells a sheet may have, and how many copied records
abbrev pub most_cells : ℕ
most_cells = 1048576

abbrev pub most_copies : ℕ
most_copies = 2097152

-- a sheet that has just been made: nothing is evaluated yet
abbrev pub fresh : Group → Grid → List (List Rec) → List (List CalcValue) → SheetState
fresh g w copies rows = record { group = g; grid = w; copies = copies; rows = rows; evals = 0; due = [] }

-- the fault of saved rows: that of the first row that does not have exactly so many values
abbrev pub shape_fault : ℕ → List (List CalcValue) → Option SheetNo
shape_fault windows rows = option_map (Shape windows) (find (λ n. not (n == windows)) (map length rows))

-- the fault of so many cells and copied records. The limit of cells comes first
abbrev pub limit_fault : ℕ → ℕ → Option SheetNo
limit_fault cells records =
    if nat_lt most_cells cells then Some (CellLimit cells)
    else (if nat_lt most_copies records then Some (CopyLimit records) else None)

-- why a sheet is too large, if it is
abbrev pub fault_of : SheetState → Option SheetNo
fault_of s = limit_fault (complete_windows s.grid s.copies * length s.group.calcs) (total_length s.copies)

-- how many cells a sheet has with more records
abbrev pub cells_after : SheetState → List (List Rec) → ℕ
cells_after s mores = complete_windows s.grid (longer s.copies mores) * length s.group.calcs

-- why a sheet cannot take more records, if it cannot
abbrev pub fault_after : SheetState → List (List Rec) → Option SheetNo
fault_after s mores = limit_fault (cells_after s mores) (total_length (longer s.copies mores))

-- a fault decides the refusal. Want of memory may come at any time
abbrev pub IsRefreshToldOf : Option SheetNo → SheetNo → Type 0
IsRefreshToldOf fault (Shape windows rows) = fault ≡ Some (Shape windows rows)
IsRefreshToldOf fault (CellLimit cells) = fault ≡ Some (CellLimit cells)
IsRefreshToldOf fault (CopyLimit records) = fault ≡ Some (CopyLimit records)
IsRefreshToldOf fault WantOfMemory = Unit {0}

-- those of the first n windows that more records make due
abbrev pub due_windows : Grid → List (List Rec) → List (List Rec) → ℕ → List ℕ
due_windows w rss mores n = filter (is_due w rss mores) (range_with_len 0 n)

-- how many values more records make a sheet evaluate: one for each calculation in each window that is due
abbrev pub evaluated : SheetState → List (List Rec) → ℕ
evaluated s mores =
    due_below s.grid s.copies mores (complete_windows s.grid (longer s.copies mores)) * length s.group.calcs

-- t is the sheet s with these additional records
pub record IsRefreshed (s t : SheetState) (mores : List (List Rec)) : Type 0 where
  pub group : t.group ≡ s.group
  pub grid : t.grid ≡ s.grid
  pub copies : t.copies ≡ longer s.copies mores
  pub within : fault_of t ≡ None
  pub whole : AreRowsWhole t
  -- a window that is due has its values from scratch, whatever the rows were before
  pub due_are : (k : ℕ) → k < complete_windows t.grid t.copies → is_due s.grid s.copies mores k ≡ true
      → column k t.rows ≡ map Some (values_at t.group t.grid t.copies k)
  -- rows that were from scratch are still so
  pub scratch : IsScratch s.group s.grid s.copies s.rows → IsScratch t.group t.grid t.copies t.rows
  -- a window that was complete and is not touched keeps its values
  pub others : (k : ℕ) → k < complete_windows s.grid s.copies
      → any_touched s.copies mores (window_from s.grid k) (window_to s.grid k) ≡ false
      → column k t.rows ≡ column k s.rows
  pub evals : t.evals ≡ min (s.evals + evaluated s mores) (2 ^ 64 - 1)
  -- the windows that were due are told, each once and in rising order
  pub due_told : t.due ≡ due_windows s.grid s.copies mores (complete_windows t.grid t.copies)

-- rows and copies of a group with these additional records, for which these windows were due
pub record IsSheetAfter (g : Group) (w : Grid) (copies : List (List Rec)) (rows : List (List CalcValue))
    (copies_after : List (List Rec)) (rows_after : List (List CalcValue)) (mores : List (List Rec)) (due : List ℕ) : Type 0 where
  pub copied : copies_after ≡ longer copies mores
  pub due_are : (k : ℕ) → k < complete_windows w copies_after → is_due w copies mores k ≡ true
      → column k rows_after ≡ map Some (values_at g w copies_after k)
  pub scratch : IsScratch g w copies rows → IsScratch g w copies_after rows_after
  pub others : (k : ℕ) → k < complete_windows w copies
      → any_touched copies mores (window_from w k) (window_to w k) ≡ false
      → column k rows_after ≡ column k rows
  pub told : due ≡ due_windows w copies mores (complete_windows w copies_after)

-- there is room for more records of each input, and for so many windows
pub record HasRoomForRecords (copies : List (Vec Rec Global)) (contents : List ContentState) (rows : List (Vec CalcValue Global))
    (deltas : List (Vec Rec Global)) (windows : ℕ) : Type 0 where
  pub copied : (i : ℕ) (c d : Vec Rec Global) → i < length deltas
      → vec_len (slice_index_or copies i c) + length (slice_index_or deltas i d).items
      ≤ vec_capacity (slice_index_or copies i c)
  pub put : (i : ℕ) (c : ContentState) (d : Vec Rec Global) → i < length deltas
      → length (slice_index_or deltas i d).items ≤ (slice_index_or contents i c).spare
  pub longer : All (λ row. windows ≤ vec_capacity row) rows

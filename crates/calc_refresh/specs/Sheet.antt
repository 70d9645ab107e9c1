-- What a clause sees of a sheet, and what a sheet keeps.
use Rattle.std.specs.Prelude.{◌≡◌, ℕ, ◌^◌, ◌<◌, ◌≤◌, List, length, map, All}
use Rattle.trend_num.specs.{Rec, CalcValue, InRange, last_time}
use Rattle.trend_model.specs.{ContentState, listed}
use Rattle.calc_check.specs.Group.{Group}
use Rattle.sheet_law.specs.{Grid, complete_windows, kept_end}

-- a group's calculations, its grid, the records of its inputs that were taken into account, its rows, how many values
-- were evaluated since the sheet was made, and the windows that the last refresh evaluated, rising
pub record SheetState : Type 0 where
  pub group : Group
  pub grid : Grid
  pub copies : List (List Rec)
  pub rows : List (List CalcValue)
  pub evals : ℕ
  pub due : List ℕ

-- there is a row for each calculation, with one value for each complete window
pub record AreRowsWhole (s : SheetState) : Type 0 where
  pub calcs : length s.rows ≡ length s.group.calcs
  pub windows : All (λ row. length row ≡ complete_windows s.grid s.copies) s.rows

-- the grid whose first window starts at `start`, and whose windows are `period` milliseconds long
abbrev pub grid_of : ℕ → ℕ → Grid
grid_of start period = record { start = start; period = period }

-- a grid of windows that a group may have
pub record IsGrid (w : Grid) : Type 0 where
  pub start : w.start ≤ last_time
  pub some : 1 ≤ w.period
  pub bound : w.period ≤ 10 ^ 12

-- a group may have so many inputs and calculations
pub record IsGroup (inputs : ℕ) (g : Group) : Type 0 where
  pub named : length g.inputs ≡ inputs
  pub some_inputs : 1 ≤ inputs
  pub few_inputs : inputs ≤ 64
  pub some_calcs : 1 ≤ length g.calcs
  pub few_calcs : length g.calcs ≤ 64

-- records that can be copied: fewer than 2^32, their points in range
pub record IsCopy (rs : List Rec) : Type 0 where
  pub short : length rs < 2 ^ 32
  pub range : All (λ r. InRange r.point) rs

-- what a sheet keeps: the content of each input and the end of its Kept records, and rows as long as there are complete
-- windows
pub record IsSheet (g : Group) (w : Grid) (copies : List (List Rec)) (contents : List ContentState)
    (ends : List ℕ) (rows : List (List CalcValue)) : Type 0 where
  pub group : IsGroup (length copies) g
  pub grid : IsGrid w
  pub copied : All IsCopy copies
  pub read : map (λ c. c.records) contents ≡ map listed copies
  pub ended : ends ≡ map kept_end copies
  pub calcs : length rows ≡ length g.calcs
  pub windows : All (λ row. length row ≡ complete_windows w copies) rows
  pub few : complete_windows w copies < 2 ^ 32

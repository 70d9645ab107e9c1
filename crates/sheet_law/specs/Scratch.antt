-- The rows of a group from scratch, and the windows that records make due.
use Rattle.std.specs.Prelude.{◌≡◌, ℕ, ◌<◌, Bool, ◌||◌, List, length, map, All, Option, Some, slice_get, count_by, nat_le}
use Rattle.std.specs.List.{range_with_len}
use Rattle.trend_num.specs.{Rec, Point, CalcValue}
use Rattle.trend_model.specs.{listed, points_of}
use Rattle.calc_check.specs.Group.{Group}
use Rattle.sheet_law.specs.Value.{values}
use Rattle.sheet_law.specs.declared.grid.Grid.{Grid}
use Rattle.sheet_law.specs.Windows.{complete_windows, window_from, window_to}
use Rattle.sheet_law.specs.Touched.{any_touched}

-- the points of each input's content
abbrev pub points_by : List (List Rec) → List (List Point)
points_by rss = map (λ rs. points_of (listed rs)) rss

-- the values of the calculations in the window k, by these records
abbrev pub values_at : Group → Grid → List (List Rec) → ℕ → List CalcValue
values_at g w rss k = values g (points_by rss) (window_from w k) (window_to w k)

-- the values that rows have at the place k
abbrev pub column : ℕ → List (List CalcValue) → List (Option CalcValue)
column k rows = map (λ row. slice_get row k) rows

-- rows from scratch: one for each calculation, with its value in each complete window
pub record IsScratch (g : Group) (w : Grid) (rss : List (List Rec)) (rows : List (List CalcValue)) : Type 0 where
  pub calcs : length rows ≡ length g.calcs
  pub windows : All (λ row. length row ≡ complete_windows w rss) rows
  pub values : (k : ℕ) → k < complete_windows w rss → column k rows ≡ map Some (values_at g w rss k)

-- whether more records make the window k due: it was not complete before, or they touch it
abbrev pub is_due : Grid → List (List Rec) → List (List Rec) → ℕ → Bool
is_due w rss mores k =
    nat_le (complete_windows w rss) k || any_touched rss mores (window_from w k) (window_to w k)

-- how many of the first n windows are due
abbrev pub due_below : Grid → List (List Rec) → List (List Rec) → ℕ → ℕ
due_below w rss mores n = count_by (is_due w rss mores) (range_with_len 0 n)

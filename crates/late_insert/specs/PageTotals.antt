-- The totals of a page.
use Rattle.std.specs.Prelude.{◌≡◌, ℕ, ◌+◌, ◌<◌, ◌≤◌, List, length, slice_range, false}
use Rattle.trend_num.specs.{Point, Rec}
use Rattle.late_insert.specs.declared.content.PageTotals.{PageTotals}
use Rattle.trend_model.specs.{points_of, area}
use Rattle.late_insert.specs.Totals.{least_of, greatest_of}

-- the points of l that are on a page
abbrev pub points_on : List Rec → PageTotals → List Point
points_on l p = slice_range (points_of l) p.first (p.first + p.len)

-- a page of l that has the point at the place i, with the totals of its points
pub record IsPageOf (l : List Rec) (i : ℕ) (p : PageTotals) : Type 0 where
  pub from : p.first ≤ i
  pub upto : i < p.first + p.len
  pub within : p.first + p.len ≤ length l
  pub area : p.area ≡ area false (points_on l p)
  pub low : p.low ≡ least_of (points_on l p)
  pub high : p.high ≡ greatest_of (points_on l p)

-- Totals over points in order of time. Areas are defined in `Windows`.
use Rattle.std.specs.Prelude.{ℕ, ◌-◌, ◌*◌, ◌≤◌, ℤ, pos, ◌+ℤ◌, true, false, List, [], ◌∷◌, fold, length, slice_index_or, unsigned_abs}
use Rattle.std.specs.Int.{int_min, int_max}
use Rattle.late_insert.specs.declared.total.Extreme.{Extreme}
use Rattle.late_insert.specs.declared.total.Extreme.TheVariants.{Least, Greatest}
use Rattle.late_insert.specs.declared.total.Summary.{Summary}
use Rattle.trend_num.specs.{Point, InRange, last_time, largest_value}
use Rattle.trend_model.specs.{area, piece}

-- the least value of these points, and the greatest
abbrev pub least_of : List Point → ℤ
least_of [] = pos 0
least_of (p ∷ points) = fold (λ low q. int_min low q.v) p.v points

abbrev pub greatest_of : List Point → ℤ
greatest_of [] = pos 0
greatest_of (p ∷ points) = fold (λ high q. int_max high q.v) p.v points

-- the least or the greatest of two values, and of these points
abbrev pub outer : Extreme → ℤ → ℤ → ℤ
outer Least = int_min
outer Greatest = int_max

abbrev pub extreme_of : Extreme → List Point → ℤ
extreme_of Least = least_of
extreme_of Greatest = greatest_of

-- the point that is taken if a list has none
abbrev pub no_point : Point
no_point = record { t = 0; v = pos 0 }

-- the ends and the totals of these points
abbrev pub summary_of : List Point → Summary
summary_of points = record {
  first = slice_index_or points 0 no_point;
  last = slice_index_or points (length points - 1) no_point;
  line = area false points;
  stair = area true points;
  low = least_of points;
  high = greatest_of points;
}

-- those of no points
abbrev pub no_summary : Summary
no_summary = record { first = no_point; last = no_point; line = pos 0; stair = pos 0; low = pos 0; high = pos 0 }

-- the summary of points and of those after them
abbrev pub joined : Summary → Summary → Summary
joined a b = record {
  first = a.first;
  last = b.last;
  line = a.line +ℤ b.line +ℤ piece false a.last b.first;
  stair = a.stair +ℤ b.stair +ℤ piece true a.last b.first;
  low = int_min a.low b.low;
  high = int_max a.high b.high;
}

-- the summary of points whose parts, one after another, have these summaries
abbrev pub joined_of : List Summary → Summary
joined_of [] = no_summary
joined_of (s ∷ ss) = fold joined s ss

-- the greatest amounts of the areas of one piece, of a page, and of n pages
abbrev pub piece_most : ℕ
piece_most = last_time * (2 * largest_value)

abbrev pub page_most : ℕ
page_most = 128 * piece_most

abbrev pub pages_most : ℕ → ℕ
pages_most n = n * (129 * piece_most)

-- a summary whose areas are no greater than this
pub record IsSmall (most : ℕ) (s : Summary) : Type 0 where
  pub first : InRange s.first
  pub last : InRange s.last
  pub line : unsigned_abs s.line ≤ most
  pub stair : unsigned_abs s.stair ≤ most

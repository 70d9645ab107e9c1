-- Rows of text, and the lines `TIME,VALUE` that points are read from.
use Rattle.std.specs.Prelude.{ℕ, ◌+◌, ℤ, if◌then◌else◌, List, [], ◌∷◌, length, map, take, Option, None, Some, nat_eq, nat_le, nat_lt, unsigned_abs, Result, Ok, Err}
use Rattle.std.specs.List.{slice_split}
use Rattle.std.specs.Str.Lines.{lines}
use Rattle.trend_num.specs.{Point, Reason, last_time, largest_value, numeral, natural_upto}
use Rattle.trend_num.specs.declared.refusal.Reason.TheVariants.{Fields, Number, Range}
use Rattle.point_text.specs.declared.failure.RowNo.{RowNo}
use Rattle.point_text.specs.declared.failure.RowNo.TheVariants.{BadRow, TooMany}

-- ---- rows of any kind

-- a row before the others; it moves the place of a bad row among them by one
abbrev pub with_first : {R : Type 0} → R → Result (List R) (ℕ × Reason) → Result (List R) (ℕ × Reason)
with_first r (Ok rs) = Ok (r ∷ rs)
with_first r (Err bad) = Err (bad.0 + 1, bad.1)

-- all rows, if each line has one; otherwise the place of the first line that has none, counted from 1, and its reason
abbrev pub all_rows : {R : Type 0} → List (Result R Reason) → Result (List R) (ℕ × Reason)
all_rows [] = Ok []
all_rows (Err reason ∷ reads) = Err (1, reason)
all_rows (Ok r ∷ reads) = with_first r (all_rows reads)

-- these rows of the first `most` lines, if there are no more lines than that
abbrev pub unless_more : {R : Type 0} → ℕ → ℕ → Result (List R) (ℕ × Reason) → Result (List R) RowNo
unless_more most count (Err bad) = Err (BadRow bad.0 bad.1)
unless_more most count (Ok rs) = if nat_lt most count then Err (TooMany (most + 1)) else Ok rs

-- the rows of lines. A bad line among the first `most` is refused first: the first such line, with its place and its
-- first reason. If there is none, more than `most` lines are refused
abbrev pub rows_of : {R : Type 0} → (List ℕ → Result R Reason) → ℕ → List (List ℕ) → Result (List R) RowNo
rows_of row_of most texts = unless_more most (length texts) (all_rows (map row_of (take most texts)))

-- ---- points

-- a point of these numbers, if they are in range
abbrev pub point_of : Option ℕ → ℤ → Result Point Reason
point_of None v = Err Range
point_of (Some t) v = if nat_le (unsigned_abs v) largest_value then Ok (record { t = t; v = v }) else Err Range

-- the point of two numerals
abbrev pub point_read : Option ℤ → Option ℤ → Result Point Reason
point_read (Some t) (Some v) = point_of (natural_upto last_time t) v
point_read t v = Err Number

-- the point of a line's fields: a time and a value
abbrev pub point_of_fields : List (List ℕ) → Result Point Reason
point_of_fields (t ∷ v ∷ []) = point_read (numeral t) (numeral v)
point_of_fields fields = Err Fields

-- the point of a line
abbrev pub point_of_line : List ℕ → Result Point Reason
point_of_line line = point_of_fields (slice_split (λ b. nat_eq b 44) line)

-- the points of a text's lines, of at most `most`
abbrev pub line_points_of : ℕ → List ℕ → Result (List Point) RowNo
line_points_of most bytes = rows_of point_of_line most (lines bytes)

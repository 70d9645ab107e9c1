-- What the collectors of a drill take.
use Rattle.std.specs.Prelude.{ℕ, List, drop, map}
use Rattle.std.specs.List.{range_with_len}
use Rattle.trend_num.specs.{Point}
use Rattle.trend_report.specs.{drill_points}
use Rattle.value_rows.specs.{RawRow}

-- a point of the tag at a place
abbrev pub row_of : ℕ → Point → RawRow
row_of tag p = record { tag = tag; point = p }

-- the rows of one tag: its events from one to another, the first included
abbrev pub drill_file : ℕ → ℕ → ℕ → ℕ → List RawRow
drill_file number from to tag = map (row_of tag) (drop from (drill_points number tag to))

-- the rows of each of so many tags
abbrev pub drill_rows_of : ℕ → ℕ → ℕ → ℕ → List (List RawRow)
drill_rows_of number tags from to = map (drill_file number from to) (range_with_len 0 tags)

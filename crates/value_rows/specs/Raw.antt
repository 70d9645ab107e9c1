-- The rows of a collector: a tag, a time and a value.
use Rattle.std.specs.Prelude.{ℕ, ◌<◌, List, [], ◌∷◌, Option, None, Some, length, position, Result, Ok, Err}
use Rattle.std.specs.Str.{bytes_eq}
use Rattle.trend_num.specs.{Point, Reason, numeral, InRange}
use Rattle.trend_num.specs.declared.refusal.Reason.TheVariants.{Fields, Name}
use Rattle.point_text.specs.{point_read, RowNo}
use Rattle.value_rows.specs.declared.raw.RawRow.{RawRow}
use Rattle.value_rows.specs.Reading.{rows_of_text}

-- the place of the first of the names that is this one
abbrev pub first_place_of : List (List ℕ) → List ℕ → Option ℕ
first_place_of names name = position (bytes_eq name) names

-- the row of the tag at this place, with a point that was read
abbrev pub row_at : ℕ → Result Point Reason → Result RawRow Reason
row_at tag (Ok p) = Ok (record { tag = tag; point = p })
row_at tag (Err reason) = Err reason

abbrev pub row_of_tag : Option ℕ → Result Point Reason → Result RawRow Reason
row_of_tag None read = Err Name
row_of_tag (Some tag) read = row_at tag read

-- the row of a record `TAG,T,V`, or the first reason why it has none
abbrev pub raw_row : List (List ℕ) → List (List ℕ) → Result RawRow Reason
raw_row tags (tag ∷ t ∷ v ∷ []) = row_of_tag (first_place_of tags tag) (point_read (numeral t) (numeral v))
raw_row tags fields = Err Fields

-- a row of a tag that exists, with a point in range
pub record IsRawRow (tags : List (List ℕ)) (row : RawRow) : Type 0 where
  pub tag : row.tag < length tags
  pub point : InRange row.point

-- the rows of a text of at most `most` records
abbrev pub raw_rows : List (List ℕ) → ℕ → List ℕ → Result (List RawRow) RowNo
raw_rows tags most bytes = rows_of_text (raw_row tags) most bytes

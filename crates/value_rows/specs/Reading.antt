-- Rows of a text of comma-separated records, of any kind.
use Rattle.std.specs.Prelude.{◌≡◌, ℕ, List, length, map, take, Result, Err}
use Rattle.csv.specs.Reading.{default_config, records, strip_bom}
use Rattle.trend_num.specs.{Reason}
use Rattle.point_text.specs.{all_rows, unless_more, RowNo}
use Rattle.point_text.specs.declared.failure.RowNo.TheVariants.{BadRow, TooMany, WantOfMemory}

-- the records of a text, each as its fields: no header row, records of any length, and without a byte order mark
abbrev pub text_records_of : List ℕ → List (List (List ℕ))
text_records_of bytes = records default_config (strip_bom bytes)

-- The rows of records that each read as given. The first bad one of the first `most` is refused, with its place and its
-- first reason. Otherwise more than `most` records are refused.
abbrev pub rows_read : {R : Type 0} → ℕ → List (Result R Reason) → Result (List R) RowNo
rows_read most reads = unless_more most (length reads) (all_rows (take most reads))

-- the rows of a text whose records `row_of` reads
abbrev pub rows_of_text : {R : Type 0} → (List (List ℕ) → Result R Reason) → ℕ → List ℕ → Result (List R) RowNo
rows_of_text row_of most bytes = rows_read most (map row_of (text_records_of bytes))

-- the rows are refused for this reason; only want of memory may come whatever the rows are
abbrev pub AreRefusedFor : {R : Type 0} → Result (List R) RowNo → RowNo → Type 0
AreRefusedFor rows (BadRow row reason) = rows ≡ Err (BadRow row reason)
AreRefusedFor rows (TooMany count) = rows ≡ Err (TooMany count)
AreRefusedFor rows WantOfMemory = Unit {0}

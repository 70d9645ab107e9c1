-- The rows of collectors on the tape of a log, and the first put that is not the expected row.
use Rattle.std.specs.Prelude.{◌≡◌, ◌≢◌, ℕ, ◌+◌, ◌<◌, ◌≤◌, List, [], ◌∷◌, ◌++◌, filter, length, nat_eq, slice_get, slice_index, slice_set, take, Option, Some}
use Rattle.std.specs.Option.{option_map, option_map_or, unwrap_or}
use Rattle.plant_status.specs.declared.mismatch.Place.TheVariants.{Log as LogPlace}
use Rattle.plant_status.specs.{Seen}
use Rattle.plant_status.specs.declared.mismatch.Seen.TheVariants as seen
use Rattle.plant_status.specs.declared.status.Status.{Status}
use Rattle.plant_status.specs.declared.status.Status.TheVariants.{Mismatch}
use Rattle.value_rows.specs.{RawRow}
use Rattle.commit_log.specs.{LogTurn, LogRow, puts}
use Rattle.commit_log.specs.declared.history.LogTurn.TheVariants.{Put}
use Rattle.plant_more.specs.LogTurns.{row_of}

-- ---- what a log has to have of a collector

-- the rows of a collector as a log has them; the first has this number
abbrev pub rows_from : ℕ → ℕ → List RawRow → List LogRow
rows_from collector number [] = []
rows_from collector number (row ∷ rows) = row_of collector number row ∷ rows_from collector (number + 1) rows

-- the rows in the file of a collector, as a log has them; none if there is no such collector
abbrev pub rows_in : List (List RawRow) → ℕ → List LogRow
rows_in files collector = option_map_or (rows_from collector 1) (slice_get files collector) []

-- ---- what it has

-- the rows of a collector among these
abbrev pub rows_by : ℕ → List LogRow → List LogRow
rows_by collector rows = filter (λ r. nat_eq r.collector collector) rows

-- of each collector exactly its first rows were put, in order; `next` has their number, collector by collector
pub record AreFound (files : List (List RawRow)) (tape : List LogTurn) (next : List ℕ) : Type 0 where
  pub as_many : length next ≡ length files
  pub each : (collector : ℕ) → rows_by collector (puts tape) ≡ take (slice_index next collector) (rows_in files collector)
  pub within : (collector : ℕ) → slice_index next collector ≤ length (rows_in files collector)

-- of each collector all rows of its file were put, in order, each once, and no others
abbrev pub AreWhole : List (List RawRow) → List LogTurn → Type 0
AreWhole files tape = (collector : ℕ) → rows_by collector (puts tape) ≡ rows_in files collector

-- these are the first of all rows, in their order
pub record AreLeadingRows (rows all : List LogRow) : Type 0 where
  pub rest : List LogRow
  pub is : all ≡ rows ++ rest

-- of each collector only the first rows of its file were put, in their order; no other row was put
abbrev pub ArePutsBegun : List (List RawRow) → List LogTurn → Type 0
ArePutsBegun files tape = (collector : ℕ) → AreLeadingRows (rows_by collector (puts tape)) (rows_in files collector)

-- the numbers of found rows are unchanged for all collectors but this one
pub record AreOthersSame (collector : ℕ) (old new : List ℕ) : Type 0 where
  pub as_many : length new ≡ length old
  pub same : (w : ℕ) → w ≢ collector → slice_index new w ≡ slice_index old w

-- ---- one put

-- a row of a log, as a status reports it
abbrev pub seen_of : LogRow → Seen
seen_of r = seen.Put r.tag r.collector r.row r.point

-- the row of a collector that has to come next
abbrev pub next_of : List (List RawRow) → List ℕ → ℕ → Option LogRow
next_of files next collector = slice_get (rows_in files collector) (slice_index next collector)

-- the row is the next one of its collector, and counts as found
pub record IsFollowed (files : List (List RawRow)) (row : LogRow) (old new : List ℕ) : Type 0 where
  pub there : row.collector < length old
  pub due : next_of files old row.collector ≡ Some row
  pub changed : new ≡ slice_set old row.collector (slice_index old row.collector + 1)

-- the row is not the next one of its collector; `told` is the next one, or Nothing if there is none
pub record IsOtherDue (files : List (List RawRow)) (row : LogRow) (next : List ℕ) (told : Seen) : Type 0 where
  pub told_is : told ≡ unwrap_or (option_map seen_of (next_of files next row.collector)) seen.Nothing
  pub differ : seen_of row ≢ told

-- The put at this place of the tape is the first that is not its collector's next row. `kept` is that put. `told` is
-- the row that was due, or Nothing if none was.
pub record IsOtherPut (files : List (List RawRow)) (tape : List LogTurn) (place : ℕ) (kept told : Seen) : Type 0 where
  pub row : LogRow
  pub next : List ℕ
  pub there : slice_get tape place ≡ Some (Put row)
  pub before : AreFound files (take place tape) next
  pub kept_is : kept ≡ seen_of row
  pub other : IsOtherDue files row next told

abbrev pub IsPutMismatch : List (List RawRow) → List LogTurn → Status → Type 0
IsPutMismatch files tape (Mismatch (LogPlace place) kept told) = IsOtherPut files tape place kept told
IsPutMismatch files tape other = ⊥

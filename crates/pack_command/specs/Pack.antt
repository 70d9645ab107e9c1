-- What `pack` answers for the bytes of its standard input.
use Rattle.std.specs.Prelude.{◌≡◌, ℕ, ◌+◌, ◌<◌, ◌≤◌, ◌⊎◌, if◌then◌else◌, false, List, [], ◌∷◌, length, map, reverse, Option, None, Some, nat_lt, Result, Ok, Err}
use Rattle.std.specs.Io.KnownBytes.{IsAtEnd}
use Rattle.std.specs.Option.{option_or}
use Rattle.trend_num.specs.{most_records, Point, Tuning}
use Rattle.trend_num.specs.declared.refusal.What.TheVariants.{FileBytes, Rows, Records}
use Rattle.trend_model.specs.{Event, Raw, Origin}
use Rattle.trend_model.specs.Walk.{records, held}
use Rattle.byte_io.specs.Outside.{Outside, CountsNoFault, CountsOneFault, Takes, TakesAll, TakesExactly, TakesAtMost}
use Rattle.point_text.specs.{line_points_of, archive_text, RowNo}
use Rattle.point_text.specs.declared.failure.RowNo.TheVariants as row_no
use Rattle.plant_status.specs.declared.file.FileId.TheVariants.{Input}
use Rattle.plant_status.specs.declared.status.Status.{Status}
use Rattle.plant_status.specs.declared.status.Status.TheVariants.{BadRow, ReadFault, Limit, WantOfMemory}

-- the most bytes of standard input, and the most lines; `most_records` is the most records of a tag
abbrev pub most_input_bytes : ℕ
most_input_bytes = 67108864

abbrev pub most_rows : ℕ
most_rows = 4000000

-- ---- the answer to bytes

-- an answer: a text that is printed, or a refusal
pub data Answer : Type 0 where
  Prints : List ℕ → Answer
  Refuses : Status → Answer

-- a tag of lines that was made with this tuning
abbrev pub origin_of : Tuning → Origin
origin_of tuning = record { tuning = tuning; step = false }

-- the history of the points of a text, which come the oldest first: each is a raw value
abbrev pub history_of : List Point → List Event
history_of points = map Raw (reverse points)

-- how many records there were at the first event of a history that found no room for two more
abbrev pub first_full : Origin → List Event → Option ℕ
first_full o [] = None
first_full o (e ∷ h) =
    option_or (first_full o h) (if nat_lt most_records (length (records o h) + 2) then Some (length (records o h)) else None)

-- the text of a history that had room throughout
abbrev pub answer_full : Origin → List Event → Option ℕ → Answer
answer_full o h None = Prints (archive_text (records o h) (held o h))
answer_full o h (Some stood) = Refuses (Limit Records stood)

-- the answer to a history
abbrev pub history_answer : Origin → List Event → Answer
history_answer o h = answer_full o h (first_full o h)

-- the status of rows that are refused
abbrev pub status_of_rows : RowNo → Status
status_of_rows (row_no.BadRow row reason) = BadRow Input row reason
status_of_rows (row_no.TooMany count) = Limit Rows count
status_of_rows row_no.WantOfMemory = WantOfMemory

-- the answer to what the lines read as
abbrev pub answer_rows : Tuning → Result (List Point) RowNo → Answer
answer_rows tuning (Ok points) = history_answer (origin_of tuning) (history_of points)
answer_rows tuning (Err why) = Refuses (status_of_rows why)

-- the answer to bytes
abbrev pub pack_answer : Tuning → List ℕ → Answer
pack_answer tuning bytes =
    if nat_lt most_input_bytes (length bytes) then Refuses (Limit FileBytes (most_input_bytes + 1)) else answer_rows tuning (line_points_of most_rows bytes)

-- ---- what was read of the input, if `pack` answers so

-- all of the input was read, no read failed, and its lines are these points
pub record IsInputRead (before now : Outside) (points : List Point) : Type 0 where
  pub bytes : List ℕ
  pub whole : TakesAll before now bytes
  pub no_fault : CountsNoFault before now
  pub within : length bytes ≤ most_input_bytes
  pub rows : line_points_of most_rows bytes ≡ Ok points

-- all of the input was read, and this text is to be printed for its history
pub record IsPrinted (tuning : Tuning) (before now : Outside) (text : List ℕ) : Type 0 where
  pub points : List Point
  pub read : IsInputRead before now points
  pub room : first_full (origin_of tuning) (history_of points) ≡ None
  pub same : text ≡ archive_text (records (origin_of tuning) (history_of points)) (held (origin_of tuning) (history_of points))

-- all of the input was taken, or more than may be read; no read failed, and the answer to it is this refusal
pub record RefusesBytes (tuning : Tuning) (before now : Outside) (refusal : Status) : Type 0 where
  pub bytes : List ℕ
  pub taken : Takes before now bytes
  pub enough : IsAtEnd now.content ⊎ (most_input_bytes < length bytes)
  pub no_fault : CountsNoFault before now
  pub answer : pack_answer tuning bytes ≡ Refuses refusal

-- the status says why nothing is printed
abbrev pub IsPackRefusal : Tuning → Outside → Outside → Status → Type 0
IsPackRefusal tuning before now (ReadFault file) = (file ≡ Input) × CountsOneFault before now × TakesAtMost before now most_input_bytes
IsPackRefusal tuning before now (BadRow file row reason) = RefusesBytes tuning before now (BadRow file row reason)
IsPackRefusal tuning before now (Limit what number) =
    RefusesBytes tuning before now (Limit what number) × (what ≡ FileBytes → TakesExactly before now (most_input_bytes + 1))
IsPackRefusal tuning before now WantOfMemory = CountsNoFault before now
IsPackRefusal tuning before now other = ⊥

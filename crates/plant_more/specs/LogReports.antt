-- What the command prints of the rows of a log: one line for each tag.
use Rattle.std.specs.Prelude.{◌≡◌, ℕ, ◌+◌, ◌<◌, ◌≤◌, List, [], ◌++◌, length, map, take, slice_get, slice_index_or, Some, ⊤}
use Rattle.trend_num.specs.{most_records, TagDef}
use Rattle.trend_num.specs.declared.refusal.What.TheVariants.{Records}
use Rattle.trend_model.specs.{Event, Origin, Raw}
use Rattle.trend_model.specs.State.{State, Stands, followed}
use Rattle.tag_core.specs.Core.{Core}
use Rattle.trend_report.specs.{check_text}
use Rattle.plant_status.specs.declared.status.Status.{Status}
use Rattle.plant_status.specs.declared.status.Status.TheVariants.{Limit, WantOfMemory}
use Rattle.commit_log.specs.{LogHistory, LogRow, log_points_of, puts}

-- all rows of a log, in order: those of its opening, and those that were put
abbrev pub log_rows : LogHistory → List LogRow
log_rows h = h.opening.items ++ puts h.tape.items

-- the tuning and the kind with which a tag is made
abbrev pub log_origin_of : TagDef → Origin
log_origin_of def = record { tuning = def.tuning; step = def.step }

-- the history of a tag that has taken its points of these rows, in order
abbrev pub log_history_of : ℕ → List LogRow → List Event
log_history_of tag rows = followed [] (map Raw (log_points_of tag rows))

-- for each tag there is a core that stands for the tag's points of these rows
pub record AreStanding (tags : List TagDef) (rows : List LogRow) (cores : List Core) : Type 0 where
  pub as_many : length cores ≡ length tags
  pub steps : (tag : ℕ) (def : TagDef) (core : Core) → tag < length tags
      → (slice_index_or cores tag core).step ≡ (slice_index_or tags tag def).step
  pub stand : (tag : ℕ) (def : TagDef) (core : Core) → tag < length tags
      → Stands (log_origin_of (slice_index_or tags tag def)) (log_history_of tag rows) (slice_index_or cores tag core).state

-- The row at this place can be taken. An archive that stands for its tag's points in the rows before it has room for two
-- more records.
pub record HasRoomAt (tags : List TagDef) (rows : List LogRow) (place : ℕ) : Type 0 where
  pub row : LogRow
  pub state : State
  pub there : slice_get rows place ≡ Some row
  pub stands : (def : TagDef) → Stands (log_origin_of (slice_index_or tags row.tag def)) (log_history_of row.tag (take place rows)) state
  pub few : length state.records + 2 ≤ most_records

-- each row before this place can be taken
abbrev pub HasRoomBelow : List TagDef → List LogRow → ℕ → Type 0
HasRoomBelow tags rows end = (place : ℕ) → place < end → HasRoomAt tags rows place

-- The text has one line for each tag, of an archive that stands for its points of these rows. Each row could be taken: no
-- tag can get too many records by it.
pub record IsLineToldOf (tags : List TagDef) (rows : List LogRow) (text : List ℕ) : Type 0 where
  pub cores : List Core
  pub standing : AreStanding tags rows cores
  pub room : HasRoomBelow tags rows (length rows)
  pub same : text ≡ check_text tags cores

-- The row at place `count` is the first that cannot be taken. An archive stands for its tag's points in the rows before
-- it, and has so many records. One point more could bring too many.
pub record IsTagFull (tags : List TagDef) (rows : List LogRow) (number : ℕ) : Type 0 where
  pub tag : ℕ
  pub count : ℕ
  pub next : LogRow
  pub state : State
  pub known : tag < length tags
  pub there : slice_get rows count ≡ Some next
  pub of_tag : next.tag ≡ tag
  pub stands : (def : TagDef) → Stands (log_origin_of (slice_index_or tags tag def)) (log_history_of tag (take count rows)) state
  pub number_is : number ≡ length state.records
  pub many : most_records < number + 2
  pub first : HasRoomBelow tags rows count

-- why there is no report of the rows: a tag could get too many records, or there was no memory
abbrev pub IsReportRefusal : List TagDef → List LogRow → Status → Type 0
IsReportRefusal tags rows (Limit Records number) = IsTagFull tags rows number
IsReportRefusal tags rows WantOfMemory = ⊤
IsReportRefusal tags rows other = ⊥

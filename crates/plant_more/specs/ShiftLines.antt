-- What `shifts` prints: for each window a line for each tag.
use Rattle.std.specs.Prelude.{◌≡◌, ℕ, ℤ, List, [], ◌++◌, All, Option, None, codes, if◌then◌else◌, map, nat_lt, slice_get}
use Rattle.std.specs.Fmt.{decimal}
use Rattle.std.specs.List.{flat_map}
use Rattle.std.specs.Option.{option_map_or}
use Rattle.trend_num.specs.{Measure, TagDef}
use Rattle.trend_model.specs.{window_value}
use Rattle.tag_core.specs.Core.{Core}
use Rattle.trend_report.specs.{number_text}
use Rattle.plant_store.specs.{points_recovered}
use Rattle.shift_calendar.specs.{CalendarParts, IsDayWord, ShiftWindow}

-- ---- one tag in one window

-- The measure of a tag in a window, as the answer to a query: over the tag's records, closed by its held point. There
-- is none if the window does not end after its start.
abbrev pub value_in : Measure → ShiftWindow → Core → Option ℤ
value_in measure w core =
    if nat_lt w.from w.to then window_value core.step measure (points_recovered core) w.from w.to
    else None

-- a window, and the word of its day
pub record DatedWindow : Type 0 where
  pub window : ShiftWindow
  pub word : List ℕ

abbrev pub dated : ShiftWindow → List ℕ → DatedWindow
dated w word = record { window = w; word = word }

-- `shift DAY I FROM TO TAG VALUE`
abbrev pub shift_line : DatedWindow → List ℕ → Option ℤ → List ℕ
shift_line d tag value =
    codes "shift " ++ d.word ++ codes " " ++ decimal d.window.shift ++ codes " " ++ decimal d.window.from ++ codes " "
    ++ decimal d.window.to ++ codes " " ++ tag ++ codes " " ++ number_text value ++ codes "\n"

-- ---- all of them

-- the name of the tag at a place, and its measure in a window
abbrev pub shift_name_at : List TagDef → ℕ → List ℕ
shift_name_at tags place = option_map_or (λ tag. tag.name) (slice_get tags place) []

abbrev pub value_at : List Core → Measure → ShiftWindow → ℕ → Option ℤ
value_at cores measure w place = option_map_or (value_in measure w) (slice_get cores place) None

-- the lines of a window: one for each tag of the calendar, in its order
abbrev pub window_lines : List TagDef → List Core → CalendarParts → DatedWindow → List ℕ
window_lines tags cores cal d =
    flat_map (λ place. shift_line d (shift_name_at tags place) (value_at cores cal.measure d.window place)) cal.tags

-- the text has the lines of these windows, one window after the other, each with the word of its day
pub record AreLines (lines : DatedWindow → List ℕ) (windows : List ShiftWindow) (text : List ℕ) : Type 0 where
  pub dated : List DatedWindow
  pub of_windows : map (λ d. d.window) dated ≡ windows
  pub days : All (λ d. IsDayWord d.word d.window.day) dated
  pub same : text ≡ flat_map lines dated

-- the text is the lines of these windows
abbrev pub AreShiftLines : List TagDef → List Core → CalendarParts → List ShiftWindow → List ℕ → Type 0
AreShiftLines tags cores cal windows text = AreLines (window_lines tags cores cal) windows text

-- The tags of a calendar, taken from the tags of a base and their opened cores.
use Rattle.std.specs.Prelude.{◌≡◌, ℕ, ℤ, List, ◌++◌, codes, Option, None, Some, if◌then◌else◌, nat_lt, slice_get}
use Rattle.std.specs.Fmt.{decimal}
use Rattle.std.specs.List.{AllZip, flat_map}
use Rattle.trend_num.specs.{Measure, TagDef}
use Rattle.trend_model.specs.{listed, window_value}
use Rattle.tag_core.specs.Core.{Core}
use Rattle.interp_read.specs.{points_closed_by}
use Rattle.shift_calendar.specs.{ShiftWindow}
use Rattle.plant_more.specs.ShiftLines.{DatedWindow, shift_line}
use Rattle.plant_more.specs.declared.shift_tag.ShiftTag.{ShiftTag}

-- this is the tag of the base at this place
pub record IsShiftTag (defs : List TagDef) (cores : List Core) (place : ℕ) (tag : ShiftTag) : Type 0 where
  pub def : TagDef
  pub core : Core
  pub is_def : slice_get defs place ≡ Some def
  pub is_core : slice_get cores place ≡ Some core
  pub name : tag.name ≡ def.name
  pub step : tag.step ≡ core.step
  pub held : tag.held ≡ core.state.summary.held
  pub content : tag.content.records ≡ listed core.state.records

-- these are the tags of the base at these places
abbrev pub AreShiftTags : List TagDef → List Core → List ℕ → List ShiftTag → Type 0
AreShiftTags defs cores places tags = AllZip (IsShiftTag defs cores) places tags

-- the measure of the tag in a window
abbrev pub shift_value_of : Measure → ShiftWindow → ShiftTag → Option ℤ
shift_value_of measure w tag =
    if nat_lt w.from w.to then window_value tag.step measure (points_closed_by tag.held tag.content.records) w.from w.to
    else None

-- the line of the tag
abbrev pub tag_line : Measure → DatedWindow → ShiftTag → List ℕ
tag_line measure d tag = shift_line d tag.name (shift_value_of measure d.window tag)

-- the lines of these tags
abbrev pub tag_lines : Measure → List ShiftTag → DatedWindow → List ℕ
tag_lines measure tags d = flat_map (tag_line measure d) tags

-- the beginning of a line, up to the name of the tag
abbrev pub heading : DatedWindow → List ℕ
heading d =
    codes "shift " ++ d.word ++ codes " " ++ decimal d.window.shift ++ codes " " ++ decimal d.window.from ++ codes " "
    ++ decimal d.window.to ++ codes " "

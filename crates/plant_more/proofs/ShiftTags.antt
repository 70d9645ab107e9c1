-- The lines of the tags of a calendar are those of the places that it names.
use Rattle.std.proofs.Common.{◌≡◌, ℕ, ◌+◌, ◌<◌, List, [], ◌∷◌, ◌++◌, length, take, get_or, None, refl, sym, ap, ap₂, subst, ◌∙◌}
use Rattle.std.specs.List.{flat_map}
use Rattle.std.specs.Option.{option_map_or}
use Rattle.std.proofs.lemmas.List.{take_more}
use Rattle.std.proofs.lemmas.Slice.Zip.{all_zipped_more}
use Rattle.trend_num.specs.{Measure, TagDef}
use Rattle.tag_core.specs.Core.{Core}
use Rattle.shift_calendar.specs.{CalendarParts, ShiftWindow}
use Rattle.plant_more.specs.{AreLines, AreShiftLines, DatedWindow, shift_name_at, shift_line, value_at, value_in, window_lines, AreShiftTags, IsShiftTag, tag_line, tag_lines, shift_value_of, ShiftTag}

-- one tag more
pub tags_more : (defs : List TagDef) (cores : List Core) (places : List ℕ) (tags : List ShiftTag) (i d : ℕ) (tag : ShiftTag)
    → i < length places → AreShiftTags defs cores (take i places) tags → IsShiftTag defs cores (get_or places i d) tag
    → AreShiftTags defs cores (take (i + 1) places) (tags ++ tag ∷ [])
tags_more defs cores places tags i d tag within all one =
    let place = get_or places i d in
    subst (λ l. AreShiftTags defs cores l (tags ++ tag ∷ [])) (sym (take_more places i d within))
    (all_zipped_more (IsShiftTag defs cores) (take i places) tags place tag all one)

-- its value is that of what it was opened as
value_same : (measure : Measure) (w : ShiftWindow) (defs : List TagDef) (cores : List Core) (place : ℕ) (tag : ShiftTag)
    → IsShiftTag defs cores place tag → shift_value_of measure w tag ≡ value_at cores measure w place
value_same measure w defs cores place tag is =
    let there : value_at cores measure w place ≡ value_in measure w is.core =
    ap (λ o. option_map_or (value_in measure w) o None) is.is_core in
    let same : shift_value_of measure w tag ≡ value_in measure w is.core = rw (is.step, is.held, is.content) refl in
    same ∙ sym there

-- its line is that of its place
line_same : (measure : Measure) (d : DatedWindow) (defs : List TagDef) (cores : List Core) (place : ℕ) (tag : ShiftTag)
    → IsShiftTag defs cores place tag
    → tag_line measure d tag ≡ shift_line d (shift_name_at defs place) (value_at cores measure d.window place)
line_same measure d defs cores place tag is =
    let named : tag.name ≡ shift_name_at defs place = is.name ∙ sym (ap (λ o. option_map_or (λ (t : TagDef). t.name) o []) is.is_def) in
    ap₂ (shift_line d) named (value_same measure d.window defs cores place tag is)

-- so are those of all tags
lines_same : (measure : Measure) (d : DatedWindow) (defs : List TagDef) (cores : List Core) (places : List ℕ) (tags : List ShiftTag)
    → AreShiftTags defs cores places tags
    → tag_lines measure tags d ≡ flat_map (λ place. shift_line d (shift_name_at defs place) (value_at cores measure d.window place)) places
lines_same measure d defs cores [] [] are = refl
lines_same measure d defs cores [] (t ∷ ts) are = absurd are
lines_same measure d defs cores (p ∷ ps) [] are = absurd are
lines_same measure d defs cores (p ∷ ps) (t ∷ ts) are =
    ap₂ (λ a b. a ++ b) (line_same measure d defs cores p t are.0) (lines_same measure d defs cores ps ts are.1)

-- and those of all windows
windows_same : (defs : List TagDef) (cores : List Core) (cal : CalendarParts) (tags : List ShiftTag) (ds : List DatedWindow)
    → AreShiftTags defs cores cal.tags tags
    → flat_map (tag_lines cal.measure tags) ds ≡ flat_map (window_lines defs cores cal) ds
windows_same defs cores cal tags [] are = refl
windows_same defs cores cal tags (d ∷ ds) are =
    ap₂ (λ a b. a ++ b) (lines_same cal.measure d defs cores cal.tags tags are) (windows_same defs cores cal tags ds are)

-- the text is the lines of the windows
pub lines_told : (defs : List TagDef) (cores : List Core) (cal : CalendarParts) (tags ts : List ShiftTag) (windows ws : List ShiftWindow)
    (measure : Measure) (text : List ℕ) → AreShiftTags defs cores cal.tags tags → measure ≡ cal.measure → ts ≡ tags → ws ≡ windows
    → AreLines (tag_lines measure ts) ws text → AreShiftLines defs cores cal windows text
lines_told defs cores cal tags ts windows ws measure text are is_measure is_tags is_windows told = record {
  dated = told.dated;
  of_windows = told.of_windows ∙ is_windows;
  days = told.days;
  same = told.same ∙ ap₂ (λ m l. flat_map (tag_lines m l) told.dated) is_measure is_tags ∙ windows_same defs cores cal tags told.dated are;
}

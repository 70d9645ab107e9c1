-- Over devices that hold nothing a plant is opened, but for want of memory and for faults.
use Rattle.std.proofs.Common.{◌≡◌, ◌∙◌, ◌≤◌, ◌+◌, ◌-◌, ℕ, zero, suc, List, [], ◌∷◌, Option, None, Some, inl, inr, refl, ap, arith, length, replicate, take, fold, slice_index, div-le_self}
use Rattle.trend_num.specs.{Rec, Summary, TagDef}
use Rattle.trend_num.specs.declared.refusal.What.TheVariants.{FileBytes, TextBytes, Rows, Tags, Collectors, Readers, Queries, Groups, Calcs, Records, StoreRecords, Copies, Cells}
use Rattle.trend_model.specs.State.{State}
use Rattle.tag_core.specs.Core.{Core}
use Rattle.disk_model.specs.{IsOpen}
use Rattle.device_layout.specs.{IsTagDamage, EndsShort, BadHeader, BadLayout, BadSummary, BadLog, BadParts, BadQueue, BadValue, IsFull, IsStored, Recovers}
use Rattle.sheet_law.specs.{Grid, complete_windows, windows_before}
use Rattle.calc_refresh.specs.{shape_fault, grid_of, GroupDefParts}
use Rattle.group_layout.specs.{IsGroupDamage, BadHead, BadBlock, BadRows}
use Rattle.group_book.specs.{SavesAhead, SavesShape, cut}
use Rattle.plant_status.specs.declared.status.Status.{Status}
use Rattle.plant_status.specs.declared.status.Status.TheVariants.{Done, BadWords, BadText, BadRow, ReadFault, WriteFault, DeviceFault, Damaged, OtherTag, Limit, Mismatch, Halted, WantOfMemory, OtherPlant, BadName}
use Rattle.plant_status.specs.declared.unit.Unit.TheVariants as unit
use Rattle.tag_base.specs.{Base, GroupDef}
use Rattle.plant_store.specs.TagRefusals as tags
use Rattle.plant_store.specs.Tags.{AreTagsOpened, IsOpened, tag_records_in, tag_trace_of}
use Rattle.plant_store.specs.Groups.{DeviceTraces, group_definition_text, group_parts_of}
use Rattle.plant_store.specs.BookRefusals as groups
use Rattle.plant_store.specs.{IsPlantRefusal, OfGroups, OfTags}
use Rattle.run_command.specs.Runs as runs
use Rattle.run_command.specs.{IsDrillUnopened, drill_status, fresh_devices}
use Rattle.run_command.proofs.DrillNew.{empty_stands, opened_nothing, origin_of, saved_nothing}

-- ---- tags

-- there is no open gate
not_open : IsOpen 0 [] → ⊥
not_open is = cc is

not_stored : (def : TagDef) (rs : List Rec) (s : Summary) → IsStored def [] rs s → ⊥
not_stored def rs s is = not_open is.tag.opened

undamaged : (def : TagDef) (a : ℕ) (byte : Option ℕ) → IsTagDamage def [] a byte → ⊥
undamaged def a byte (EndsShort begun ends) = not_open begun.opened
undamaged def a byte (BadHeader is) = not_open is.opened
undamaged def a byte (BadLayout is) = not_open is.tag.opened
undamaged def a byte (BadSummary i o is) = not_open is.tag.opened
undamaged def a byte (BadLog s is) = not_open is.tag.opened
undamaged def a byte (BadParts rs s i is) = not_open is.tag.opened
undamaged def a byte (BadQueue rs s is) = not_stored def rs s is.stored
undamaged def a byte (BadValue rs s n j i is) = not_stored def rs s is.stored

-- what is recovered was never retuned
as_made : (def : TagDef) (s : State) → Recovers def [] s → s.summary.tuning ≡ Some def.tuning
as_made def s (inl new) = ap (λ (s : State). s.summary.tuning) new.1
as_made def s (inr (rs, sum, stored, replayed)) = absurd (not_stored def rs sum stored)

not_full : (def : TagDef) (n : ℕ) (s : State) → IsFull def [] n s → ⊥
not_full def n s is = is.other (as_made def s is.recovered)

-- and has no record
no_record : (def : TagDef) (core : Core) → IsOpened def (tag_trace_of fresh_devices def) core → length core.state.records ≡ 0
no_record def core is =
    ap (length {A = Rec}) (opened_nothing def core.state (is.stands (origin_of def) [] (empty_stands def))).same_records

adds_none : (defs : List TagDef) (cores : List Core) (n : ℕ) → AreTagsOpened defs fresh_devices cores
    → fold (λ (a : ℕ) (core : Core). a + length core.state.records) n cores ≡ n
adds_none [] [] n are = refl
adds_none [] (core ∷ cores) n are = absurd are
adds_none (def ∷ defs) [] n are = absurd are
adds_none (def ∷ defs) (core ∷ cores) n are =
    omega (arith, adds_none defs cores (n + length core.state.records) are.1, no_record def core are.0)

no_records : (defs : List TagDef) (cores : List Core) → AreTagsOpened defs fresh_devices cores → tag_records_in cores ≡ 0
no_records defs cores are = adds_none defs cores 0 are

not_too_much : (defs : List TagDef) (new : DeviceTraces) (number i : ℕ) → tags.IsRefusedAt defs fresh_devices new i (tags.IsTooMuch number) → ⊥
not_too_much defs new number i is =
    let much = is.cause in
    omega (arith, no_records (take i defs) is.cores is.front, no_record is.def much.core much.opened, much.number_is, much.many)

of_tags : (defs : List TagDef) (new : DeviceTraces) (before now : ℕ) (why : Status) → tags.IsRefusal defs fresh_devices new before now why
    → drill_status why ≡ WantOfMemory
of_tags defs new before now Done is = absurd is
of_tags defs new before now BadWords is = absurd is
of_tags defs new before now (BadText file rule place at) is = absurd is
of_tags defs new before now (BadRow file row reason) is = absurd is
of_tags defs new before now (ReadFault file) is = absurd is
of_tags defs new before now WriteFault is = absurd is
of_tags defs new before now (DeviceFault u) is = refl
of_tags defs new before now (Damaged (unit.Tag i) at byte) is = absurd (undamaged is.def at byte is.cause)
of_tags defs new before now (Damaged (unit.Group i) at byte) is = absurd is
of_tags defs new before now (Damaged unit.Log at byte) is = absurd is
of_tags defs new before now (OtherTag i found wanted) is = absurd (not_open is.cause.opened)
of_tags defs new before now (Limit FileBytes number) is = absurd is
of_tags defs new before now (Limit TextBytes number) is = absurd is
of_tags defs new before now (Limit Rows number) is = absurd is
of_tags defs new before now (Limit Tags number) is = absurd is
of_tags defs new before now (Limit Collectors number) is = absurd is
of_tags defs new before now (Limit Readers number) is = absurd is
of_tags defs new before now (Limit Queries number) is = absurd is
of_tags defs new before now (Limit Groups number) is = absurd is
of_tags defs new before now (Limit Calcs number) is = absurd is
of_tags defs new before now (Limit Records number) (i, is) = absurd (not_full is.def number is.cause.0 is.cause.1)
of_tags defs new before now (Limit StoreRecords number) (i, is) = absurd (not_too_much defs new number i is)
of_tags defs new before now (Limit Copies number) is = absurd is
of_tags defs new before now (Limit Cells number) is = absurd is
of_tags defs new before now (Mismatch place kept told) is = absurd is
of_tags defs new before now (Halted worker) is = absurd is
of_tags defs new before now WantOfMemory is = refl
of_tags defs new before now (OtherPlant at) is = absurd is
of_tags defs new before now (BadName word) is = absurd is

-- ---- groups

whole : (text : List ℕ) (inputs calcs a : ℕ) (byte : Option ℕ) → IsGroupDamage text inputs calcs [] a byte → ⊥
whole text inputs calcs a byte (BadHead begun breaks) = not_open begun.opened
whole text inputs calcs a byte (BadBlock of_text damaged) = not_open of_text.head.begun.opened
whole text inputs calcs a byte (BadRows bs of_text blocks rows) = not_open of_text.head.begun.opened

-- a version of nothing is 0
zero_at : (n i : ℕ) → slice_index (replicate n 0) i ≡ 0
zero_at zero i = refl
zero_at (suc n) zero = refl
zero_at (suc n) (suc i) = zero_at n i

not_ahead : (text : List ℕ) (def : GroupDefParts) (recovered : List (List Rec)) (input version records : ℕ)
    → SavesAhead text def recovered input version records [] → ⊥
not_ahead text def recovered input version records is =
    let none = saved_nothing text def.inputs (length def.calcs.calcs) is.versions is.rows is.stands in
    omega (arith, is.ahead.above, is.ahead.version_is, ap (λ (vs : List ℕ). slice_index vs input) none.0, zero_at def.inputs input)

-- no window is complete
none_before : (w : Grid) → windows_before w 0 ≡ 0
none_before w = let few : windows_before w 0 ≤ 0 - 1 - w.start = div-le_self _ _ in omega (arith, few)

none_complete : (w : Grid) (n : ℕ) (rss : List (List Rec)) → complete_windows w (cut (replicate n 0) rss) ≡ 0
none_complete w zero rss = refl
none_complete w (suc n) [] = refl
none_complete w (suc zero) (rs ∷ rss) = none_before w
none_complete w (suc (suc n)) (rs ∷ []) = none_before w
none_complete w (suc (suc n)) (rs ∷ other ∷ rss) = omega (arith, none_before w, none_complete w (suc n) (other ∷ rss))

-- and no row has a value
no_shape : (calcs : ℕ) → shape_fault 0 (replicate calcs []) ≡ None
no_shape zero = refl
no_shape (suc calcs) = no_shape calcs

fits : (text : List ℕ) (def : GroupDefParts) (recovered : List (List Rec)) (windows size : ℕ)
    → SavesShape text def recovered windows size [] → ⊥
fits text def recovered windows size is =
    let w = grid_of def.start def.period in
    let calcs = length def.calcs.calcs in
    let none = saved_nothing text def.inputs calcs is.versions is.rows is.stands in
    let empty : complete_windows w (cut is.versions recovered) ≡ 0 =
    ap (λ (vs : List ℕ). complete_windows w (cut vs recovered)) none.0 ∙ none_complete w def.inputs recovered in
    let no_fault : shape_fault (complete_windows w (cut is.versions recovered)) is.rows ≡ None =
    ap (λ (n : ℕ). shape_fault n is.rows) empty ∙ (ap (shape_fault 0) none.1 ∙ no_shape calcs) in
    cc (no_fault, is.misshapen.shape)

of_groups : (defs : List GroupDef) (records : List (List Rec)) (before now : ℕ) (why : Status)
    → groups.IsRefusal defs records fresh_devices before now why → drill_status why ≡ WantOfMemory
of_groups defs records before now why (groups.OfFault i same at) = ap drill_status same
of_groups defs records before now why (groups.OfDamage i a byte same at) =
    absurd (whole (group_definition_text at.g) (group_parts_of at.g).inputs (length (group_parts_of at.g).calcs.calcs) a byte at.cause)
of_groups defs records before now why (groups.OfVersion i input found version same at) =
    absurd (not_ahead (group_definition_text at.g) (group_parts_of at.g) _ input version found at.cause)
of_groups defs records before now why (groups.OfWindows i windows rows same at) =
    absurd (fits (group_definition_text at.g) (group_parts_of at.g) _ windows rows at.cause)
of_groups defs records before now why (groups.OfMemory same) = ap drill_status same

-- ---- the plant

of_plant : (base : Base) (new : DeviceTraces) (now : ℕ) (why : Status) → IsPlantRefusal base fresh_devices new 0 now why
    → drill_status why ≡ WantOfMemory
of_plant base new now why (OfTags is) = of_tags base.tags.items new 0 now why is
of_plant base new now why (OfGroups cores opened few is) = of_groups base.groups.items _ 0 now why is

of_devices : (base : Base) (new : DeviceTraces) (now : ℕ) (why : Status) → runs.IsUnopened base fresh_devices new 0 now why
    → drill_status why ≡ WantOfMemory
of_devices base new now why (runs.OfPlant is kept) = of_plant base new now why is
of_devices base new now why (runs.OfWant same untouched) = ap drill_status same

-- a drill whose devices are not opened answers want of memory
pub wants_memory : (base : Base) (new : DeviceTraces) (now : ℕ) (why : Status) → IsDrillUnopened base fresh_devices new 0 now why
    → why ≡ WantOfMemory
wants_memory base new now why is = is.told ∙ of_devices base new now is.cause is.unopened

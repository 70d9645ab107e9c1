-- How the opening of a plant ends.
use Rattle.std.proofs.Common.{◌≡◌, inl, inr, ℕ, ◌^◌, ◌<◌, ◌≤◌, List, [], ◌∷◌, map, Err, refl, sym, ◌∙◌, ap, subst, arith}
use Rattle.std.specs.Prelude.{String}
use Rattle.std.specs.declared.alloc.Global.{Global}
use Rattle.std.specs.List.{AllZip}
use Rattle.trend_num.specs.{most_stored, TagDef}
use Rattle.trend_model.specs.State.{State}
use Rattle.disk_model.specs.{Rose, Device}
use Rattle.crash_recovery.specs.{StaysSame}
use Rattle.plant_status.specs.declared.status.Status.{Status}
use Rattle.plant_status.specs.declared.unit.Unit.TheVariants.{Tag, Group}
use Rattle.tag_base.specs.{Base}
use Rattle.tag_cell.specs.{ToldCell, device_name}
use Rattle.plant_store.specs.TagRefusals as tags
use Rattle.plant_store.specs.Tags as tag
use Rattle.plant_store.specs.CellClosings.{AreGivenBack, CountsCells, IsBackAt}
use Rattle.plant_store.specs.{device_names_of, texts, AreCellsOpened, IsCellOpened, core_of, records_opened, AreRestSame, CountsPlant, IsPlantRefusal, OfGroups, cell_records_in, opened_records_of}
use Rattle.plant_store.proofs.CellFronts.{cores_opened, records_are}
use Rattle.plant_store.proofs.CellHalts.{all_faultless}
use Rattle.plant_store.proofs.CellLabels.{none_named}
use Rattle.plant_store.proofs.CellLists.{zip_both, zip_seen}
use Rattle.plant_store.specs.Groups as group
use Rattle.plant_store.specs.Groups.{DeviceTraces}
use Rattle.plant_store.specs.BookRefusals as groups
use Rattle.plant_store.proofs.BookDevices.{refusal_before, same_before}
use Rattle.plant_store.proofs.Labels.{groups_same}

-- ---- the tags that were opened

-- the opened tags have the records of their cells
pub records_same : {D : Type 0} (device : D → Device) (ts : List TagDef) (old : DeviceTraces)
    (cells : List (ToldCell D)) → AreCellsOpened device ts old cells
    → cell_records_in cells ≡ opened_records_of (map (λ (c : ToldCell D). core_of c) cells)
records_same device [] old [] opened = refl
records_same device [] old (c ∷ cs) opened = absurd opened
records_same device (t ∷ ts) old [] opened = absurd opened
records_same device (t ∷ ts) old (c ∷ cs) opened =
    ap (λ (s : State). s.records ∷ cell_records_in cs) opened.0.state_is
    ∙ ap (λ l. (core_of c).state.records ∷ l) (records_same device ts old cs opened.1)

-- once the devices are back, each stays the same
pub tags_kept : {D : Type 0} (device : D → Device) (names : List (String Global)) (ts : List TagDef)
    (cells : List (ToldCell D)) (old mid new : DeviceTraces) → texts names ≡ device_names_of ts → AreCellsOpened device ts old cells
    → AreGivenBack device (texts names) cells mid new → tag.AllStaySame ts old new
tags_kept {D} device names ts cells old mid new same opened back =
    zip_both (λ def (c : ToldCell D). IsCellOpened def (tag.tag_trace_of old def) (device c.journal.dev) c) (λ def (c : ToldCell D). IsBackAt device new (device_name def.name) c)
    (λ def. StaysSame def (tag.tag_trace_of old def) (tag.tag_trace_of new def))
    (λ def c is told. subst (λ o. StaysSame def (tag.tag_trace_of old def) o)
    (sym (told (ap (λ (d : TagDef). device_name d.name) (sym is.def_is)))) is.same) ts cells opened
    (zip_seen (λ name (c : ToldCell D). IsBackAt device new name c) (λ (def : TagDef). device_name def.name) ts cells
    (subst (λ l. AllZip (λ name (c : ToldCell D). IsBackAt device new name c) l cells) same back.given))

-- ---- the devices that are given back under the names of tags

-- what no tag's device is called is as it was
pub others_kept : {D : Type 0} (device : D → Device) (names : List (String Global)) (ts : List TagDef) (cells : List (ToldCell D))
    (old new : DeviceTraces) → texts names ≡ device_names_of ts → AreGivenBack device (texts names) cells old new → tag.AreOtherTagsSame ts old new
others_kept device names ts cells old new same back n none = back.others n (none_named names ts n same none)

-- no device but those of the base has changed
pub rest_same : (base : Base) (old mid after new : DeviceTraces) → tag.AreOtherTagsSame base.tags.items old mid
    → group.AreOtherGroupsSame base.groups.items mid after → tag.AreOtherTagsSame base.tags.items after new → AreRestSame base old new
rest_same base old mid after new first second third n no_tag no_group = third n no_tag ∙ (second n no_group ∙ first n no_tag)

-- ---- faults

-- one fault is counted where a call of a group's device has failed, and else none
abbrev GroupsCount : Status → ℕ → ℕ → Type 0
GroupsCount why before now = groups.CountsStore {T = Unit {0}} (Err why) before now

-- and where one of any device has
abbrev PlantCount : Status → ℕ → ℕ → Type 0
PlantCount why before now = CountsPlant {T = Unit {0}} (Err why) before now

-- a refusal of tags counts what it reports
pub tags_count : (before now : ℕ) (why : Status) → tags.CountsStore {T = Unit {0}} (Err why) before now → PlantCount why before now
tags_count before now why (inl same) = inl same
tags_count before now why (inr rose) = inr (Tag rose.0, rose.1, rose.2)

-- and so does one of groups
groups_count : (before now : ℕ) (why : Status) → GroupsCount why before now → PlantCount why before now
groups_count before now why (inl same) = inl same
groups_count before now why (inr rose) = inr (Group rose.0, rose.1, rose.2)

-- the count stays within its type then
within : (before now : ℕ) (why : Status) → before < 2 ^ 64 → GroupsCount why before now → now < 2 ^ 64
within before now why small (inl same) = omega (arith, same, small)
within before now why small (inr rose) = omega (arith, rose.2, small)

-- and the cells that are given back add nothing to it
pub count_kept : {D : Type 0} (device : D → Device) (ts : List TagDef) (old : DeviceTraces)
    (cells : List (ToldCell D)) (before first last now : ℕ) (why : Status) → AreCellsOpened device ts old cells
    → first ≡ before → (first < 2 ^ 64 → GroupsCount why first last) → (last < 2 ^ 64 → CountsCells device cells last now)
    → before < 2 ^ 64 → now ≡ last
count_kept device ts old cells before first last now why opened same counts closed small =
    let low : first < 2 ^ 64 = omega (arith, same, small) in
    (closed (within first last why low (counts low))).faultless (all_faultless device ts old cells opened)

-- ---- a refusal of the groups, once all devices are back

-- it is one of the plant, over the devices before
pub given_up_refused : {D : Type 0} (device : D → Device) (base : Base) (cells : List (ToldCell D))
    (old mid new : DeviceTraces) (before first last now : ℕ) (why : Status) → AreCellsOpened device base.tags.items old cells
    → records_opened cells ≤ most_stored → tag.AreOtherTagsSame base.tags.items old mid → first ≡ before
    → (before < 2 ^ 64 → now ≡ last)
    → groups.IsRefusal base.groups.items (cell_records_in cells) mid first last why → IsPlantRefusal base old new before now why
given_up_refused device base cells old mid new before first last now why opened few others passed kept refused =
    OfGroups (map (λ c. core_of c) cells) (cores_opened device base.tags.items old cells opened)
    (omega (arith, records_are cells, few))
    (subst (λ l. groups.IsRefusal base.groups.items l old before now why)
    (records_same device base.tags.items old cells opened)
    (refusal_before base.groups.items (cell_records_in cells) old mid (groups_same base.tags.items old mid others) before now first last why
    (λ was small. subst (λ n. Rose before n) (sym (kept small))
    (subst (λ n. Rose n last) passed (was (omega (arith, passed, small))))) refused))

-- the devices of groups stay the same
pub given_up_groups : {D : Type 0} (device : D → Device) (base : Base) (names : List (String Global)) (cells : List (ToldCell D))
    (old mid after new : DeviceTraces) → texts names ≡ device_names_of base.tags.items → tag.AreOtherTagsSame base.tags.items old mid
    → AreGivenBack device (texts names) cells after new → group.AllStaySame base.groups.items mid after
    → group.AllStaySame base.groups.items old new
given_up_groups device base names cells old mid after new same others back kept =
    same_before base.groups.items [] old mid (groups_same base.tags.items old mid others) after new
    (groups_same base.tags.items after new (others_kept device names base.tags.items cells after new same back)) kept

-- and its fault is counted
pub given_up_counts : (before first last now : ℕ) (why : Status) → first ≡ before → (before < 2 ^ 64 → now ≡ last)
    → (first < 2 ^ 64 → GroupsCount why first last) → before < 2 ^ 64 → PlantCount why before now
given_up_counts before first last now why passed kept counts small =
    groups_count before now why (subst (λ n. GroupsCount why before n) (sym (kept small))
    (subst (λ n. GroupsCount why n last) passed (counts (omega (arith, passed, small)))))

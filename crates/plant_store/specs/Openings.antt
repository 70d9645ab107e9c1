-- What a plant is opened as, and why it is not opened.
use Rattle.std.specs.Prelude.{◌≡◌, ◌≢◌, ◌⊎◌, ℕ, ◌≤◌, List, All, map, Result, Ok, Err}
use Rattle.trend_num.specs.{Rec, most_stored}
use Rattle.tag_core.specs.Core.{Core}
use Rattle.disk_model.specs.{Rose}
use Rattle.plant_status.specs.declared.status.Status.{Status}
use Rattle.plant_status.specs.declared.status.Status.TheVariants.{DeviceFault}
use Rattle.plant_status.specs.declared.unit.Unit.{Unit as Device}
use Rattle.tag_base.specs.{Base}
use Rattle.tag_cell.specs.{ToldCell, device_name}
use Rattle.plant_store.specs.TagRefusals as tags
use Rattle.plant_store.specs.Tags as tag
use Rattle.plant_store.specs.Groups as group
use Rattle.plant_store.specs.Groups.{DeviceTraces}
use Rattle.plant_store.specs.BookRefusals as groups

-- the records of each cell
abbrev pub cell_records_in : {D : Type 0} → List (ToldCell D) → List (List Rec)
cell_records_in {D} cells = map (λ (c : ToldCell D). c.state.records) cells

-- the records of each opened tag
abbrev pub opened_records_of : List Core → List (List Rec)
opened_records_of cores = map (λ (core : Core). core.state.records) cores

-- Why a plant is not opened. The store counted `before` faults before it, and counts `now` after it. Either the tags of
-- its base are refused; or they are opened, with no more records together than may be stored, and its groups are
-- refused over those records.
pub data IsPlantRefusal (base : Base) (old new : DeviceTraces) (before now : ℕ) (why : Status) : Type 0 where
  OfTags : tags.IsRefusal base.tags.items old new before now why → IsPlantRefusal base old new before now why
  OfGroups : (cores : List Core) → tag.AreTagsOpened base.tags.items old cores → tag.tag_records_in cores ≤ most_stored
      → groups.IsRefusal base.groups.items (opened_records_of cores) old before now why → IsPlantRefusal base old new before now why

-- each device except those of the base's tags and groups is unchanged
abbrev pub AreRestSame : Base → DeviceTraces → DeviceTraces → Type 0
AreRestSame base old new = (n : List ℕ) → All (λ def. n ≢ device_name def.name) base.tags.items
    → All (λ g. n ≢ group.device_name g.name) base.groups.items → new n ≡ old n

-- If a call of a device failed, the store counts one fault more, and the status reports it. Otherwise it counts none.
abbrev pub CountsPlant : {T : Type 0} → Result T Status → ℕ → ℕ → Type 0
CountsPlant (Ok x) before now = now ≡ before
CountsPlant (Err why) before now = (now ≡ before) ⊎ ((unit : Device) × (why ≡ DeviceFault unit) × Rose before now)

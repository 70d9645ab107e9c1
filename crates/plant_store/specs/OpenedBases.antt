-- A base that was read, and whose tags are opened.
use Rattle.std.specs.Prelude.{◌≡◌, ◌⊎◌, ℕ, ◌≤◌, List, Result, Ok, Err}
use Rattle.disk_model.specs.{Rose}
use Rattle.trend_num.specs.{Point, most_stored}
use Rattle.trend_model.specs.{closed_points}
use Rattle.tag_core.specs.Core.{Core}
use Rattle.tag_base.specs.{Base}
use Rattle.plant_status.specs.declared.status.Status.{Status}
use Rattle.plant_status.specs.declared.status.Status.TheVariants.{DeviceFault}
use Rattle.plant_status.specs.{Unit}
use Rattle.plant_files.specs.{ToldFiles, IsBaseFile}
use Rattle.plant_store.specs.Groups.{DeviceTraces}
use Rattle.plant_store.specs.Tags.{AllStaySame, AreLeft, AreTagsOpened, AreOtherTagsSame, tag_records_in}

-- no device has changed
abbrev pub AreUntouched : DeviceTraces → DeviceTraces → Type 0
AreUntouched old new = (n : List ℕ) → new n ≡ old n

-- The base was read from the file of this name, and its tags are opened as these cores. Together they have no more
-- records than may be stored.
pub record IsOpenedBase (name : List ℕ) (told : ToldFiles) (old : DeviceTraces) (base : Base) (cores : List Core) : Type 0 where
  pub read : IsBaseFile (told name) base
  pub opened : AreTagsOpened base.tags.items old cores
  pub few : tag_records_in cores ≤ most_stored

-- the points that a tag reads as, in order of time: those of its records, closed by its held point
abbrev pub points_recovered : Core → List Point
points_recovered core = closed_points core.state.records core.state.summary.held

-- ---- devices

-- A base was read and opened. A crash now leaves of each device what recovers its tag as it is opened. A device that
-- was new has a whole layout.
pub record IsDurable (name : List ℕ) (told : ToldFiles) (old new : DeviceTraces) : Type 0 where
  pub base : Base
  pub cores : List Core
  pub opened : IsOpenedBase name told old base cores
  pub left : AreLeft base.tags.items old new cores

-- Either no device has changed; or only those of the base's tags have. In that case a crash at any moment since leaves
-- of each device an image that a crash might have left before, or one that recovers the same state, or that state as it
-- is opened.
abbrev pub AreKept : List ℕ → ToldFiles → DeviceTraces → DeviceTraces → Type 0
AreKept name told old new = AreUntouched old new
    ⊎ ((base : Base) × IsBaseFile (told name) base × AllStaySame base.tags.items old new × AreOtherTagsSame base.tags.items old new)

-- If a call of a device failed, the store counts one fault more, and the status reports it. Otherwise it counts none.
abbrev pub CountsDevices : {T : Type 0} → Result T Status → ℕ → ℕ → Type 0
CountsDevices (Ok x) before now = now ≡ before
CountsDevices (Err why) before now = (now ≡ before) ⊎ ((unit : Unit) × (why ≡ DeviceFault unit) × Rose before now)

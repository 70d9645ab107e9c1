-- The tags of a base, opened over a store of devices.
use Rattle.std.specs.Prelude.{◌≡◌, ◌≢◌, ℕ, List, length, All, AllPairs}
use Rattle.std.specs.List.{AllZip, sum_by}
use Rattle.trend_num.specs.{TagDef}
use Rattle.trend_model.specs.{Event, Origin}
use Rattle.trend_model.specs.State.{State}
use Rattle.tag_core.specs.Core.{Core}
use Rattle.disk_model.specs.{Trace, Shows}
use Rattle.branded_disk.specs.{IsUnused, Past}
use Rattle.device_layout.specs.{Recovers}
use Rattle.crash_recovery.specs.{IsOpenedAs, StaysSame, RecoversThen, MakesLayout, GainsSync, ImageStands, StandsOpened}
use Rattle.tag_cell.specs.{device_name}

-- the trace of a tag's device, from these traces by name
abbrev pub tag_trace_of : (List ℕ → Trace) → TagDef → Trace
tag_trace_of traces def = traces (device_name def.name)

-- all tags in the list have different names
abbrev pub AreDistinct : List TagDef → Type 0
AreDistinct tags = AllPairs (λ a b. a.name ≢ b.name) tags

-- the device of each of these tags of which it is told what it was is that still
abbrev pub AreTagsUnused : Past → List TagDef → (List ℕ → Trace) → Type 0
AreTagsUnused before tags now = All (λ def. IsUnused before now (device_name def.name)) tags

-- An opened tag has what its device recovers, as it is opened. For each history for which the device stood, the core
-- stands for that history, or for it followed by a retuning. The core is of the tag's kind.
pub record IsOpened (def : TagDef) (o : Trace) (core : Core) : Type 0 where
  pub state : Shows o (λ c. (s : State) × Recovers def c s × IsOpenedAs def s core.state)
  pub stands : (p : Origin) (h : List Event) → Shows o (λ c. ImageStands def p h c → StandsOpened def p h core.state)
  pub step : core.step ≡ def.step

-- how many lane slots a new device gets
abbrev pub lane_slots : ℕ
lane_slots = 64

-- A crash now leaves of the device what recovers the opened tag. A new device has a whole layout. A device that is
-- neither new nor of a retuned tag has gained one sync and nothing else.
pub record IsLeft (def : TagDef) (old new : Trace) (core : Core) : Type 0 where
  pub recovers : RecoversThen def old new core.state
  pub made : MakesLayout def lane_slots old new
  pub synced : GainsSync def old new

-- the same holds of the device of each of these tags
abbrev pub AreLeft : List TagDef → (List ℕ → Trace) → (List ℕ → Trace) → List Core → Type 0
AreLeft tags old new cores = AllZip (λ def core. IsLeft def (tag_trace_of old def) (tag_trace_of new def) core) tags cores

-- there is one opened tag for each of these, at the same place
abbrev pub AreTagsOpened : List TagDef → (List ℕ → Trace) → List Core → Type 0
AreTagsOpened tags traces cores = AllZip (λ def core. IsOpened def (tag_trace_of traces def) core) tags cores

-- each device except those of these tags is unchanged
abbrev pub AreOtherTagsSame : List TagDef → (List ℕ → Trace) → (List ℕ → Trace) → Type 0
AreOtherTagsSame tags old new = (n : List ℕ) → All (λ def. n ≢ device_name def.name) tags → new n ≡ old n

-- A crash at any moment since leaves of the device of each tag an image that a crash might have left before, or one
-- that recovers the same state, or that state as it is opened.
abbrev pub AllStaySame : List TagDef → (List ℕ → Trace) → (List ℕ → Trace) → Type 0
AllStaySame tags old new = All (λ def. StaysSame def (tag_trace_of old def) (tag_trace_of new def)) tags

-- how many records there are, all together
abbrev pub tag_records_in : List Core → ℕ
tag_records_in cores = sum_by (λ core. length core.state.records) cores

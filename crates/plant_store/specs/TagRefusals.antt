-- Why the tags of a base are not opened.
use Rattle.std.specs.Prelude.{◌≡◌, ◌⊎◌, ℕ, ◌+◌, ◌^◌, ◌<◌, ◌≤◌, List, length, take, slice_index_or, Result, Ok, Err}
use Rattle.trend_num.specs.{TagDef, most_stored}
use Rattle.trend_num.specs.declared.refusal.What.TheVariants.{Records, StoreRecords}
use Rattle.trend_model.specs.State.{State}
use Rattle.tag_core.specs.Core.{Core}
use Rattle.disk_model.specs.{Trace, Rose, Shows}
use Rattle.device_layout.specs.{OpenNo, IsTagDamage, IsOther, IsFull}
use Rattle.device_layout.specs.declared.failure.OpenNo.TheVariants as no
use Rattle.plant_status.specs.declared.unit.Unit.TheVariants.{Tag}
use Rattle.plant_status.specs.declared.status.Status.{Status}
use Rattle.plant_status.specs.declared.status.Status.TheVariants.{DeviceFault, Damaged, OtherTag, Limit, WantOfMemory}
use Rattle.plant_store.specs.Tags.{tag_trace_of, IsOpened, AreTagsOpened, AreOtherTagsSame, tag_records_in}

-- the status for a tag that is not opened
abbrev pub status_of : ℕ → OpenNo → Status
status_of tag no.DeviceFault = DeviceFault (Tag tag)
status_of tag (no.Damaged at byte) = Damaged (Tag tag) at byte
status_of tag (no.OtherTag found wanted) = OtherTag tag found wanted
status_of tag (no.Full records) = Limit Records records
status_of tag no.WantOfMemory = WantOfMemory

-- Tag i is the first that is refused. Those before it are opened, and do not have too many records. P holds of their
-- cores, of tag i, and of the trace of its device. No device has changed except theirs and that of tag i.
pub record IsRefusedAt (tags : List TagDef) (old new : List ℕ → Trace) (i : ℕ)
    (P : List Core → TagDef → Trace → Type 0) : Type 0 where
  pub def : TagDef
  pub cores : List Core
  pub there : i < length tags
  pub is_tag : slice_index_or tags i def ≡ def
  pub front : AreTagsOpened (take i tags) old cores
  pub few : tag_records_in cores ≤ most_stored
  pub cause : P cores def (tag_trace_of old def)
  pub rest : AreOtherTagsSame (take (i + 1) tags) old new

-- the tag is opened, and with its records the opened tags have too many
pub record IsTooMuch (number : ℕ) (cores : List Core) (def : TagDef) (o : Trace) : Type 0 where
  pub core : Core
  pub opened : IsOpened def o core
  pub number_is : number ≡ tag_records_in cores + length core.state.records
  pub many : most_stored < number

-- why the tags are not opened; the store counted `before` faults before it, and counts `now` after it
abbrev pub IsRefusal : List TagDef → (List ℕ → Trace) → (List ℕ → Trace) → ℕ → ℕ → Status
    → Type 0
IsRefusal tags old new before now (DeviceFault (Tag i)) =
    IsRefusedAt tags old new i (λ cores def o. before < 2 ^ 64 → Rose before now)
IsRefusal tags old new before now (Damaged (Tag i) at byte) =
    IsRefusedAt tags old new i (λ cores def o. Shows o (λ c. IsTagDamage def c at byte))
IsRefusal tags old new before now (OtherTag i found wanted) =
    IsRefusedAt tags old new i (λ cores def o. Shows o (λ c. IsOther def c found wanted))
IsRefusal tags old new before now (Limit Records number) =
    (i : ℕ) × IsRefusedAt tags old new i (λ cores def o. Shows o (λ c. (s : State) × IsFull def c number s))
IsRefusal tags old new before now (Limit StoreRecords number) =
    (i : ℕ) × IsRefusedAt tags old new i (IsTooMuch number)
IsRefusal tags old new before now WantOfMemory = Unit {0}
IsRefusal tags old new before now other = ⊥

-- If a call of a tag's device failed, the store counts one fault more, and the status reports it. Otherwise it counts
-- none.
abbrev pub CountsStore : {T : Type 0} → Result T Status → ℕ → ℕ → Type 0
CountsStore (Ok x) before now = now ≡ before
CountsStore (Err why) before now = (now ≡ before) ⊎ ((i : ℕ) × (why ≡ DeviceFault (Tag i)) × Rose before now)

-- Why the groups of a base are not opened.
use Rattle.std.specs.Prelude.{◌≡◌, ◌⊎◌, ℕ, ◌^◌, ◌<◌, List, length, slice_index_or, Option, Result, Ok, Err}
use Rattle.trend_num.specs.{Rec}
use Rattle.disk_model.specs.{Rose, Shows, Trace}
use Rattle.group_layout.specs.{IsGroupDamage}
use Rattle.tag_base.specs.{GroupDef}
use Rattle.group_book.specs.{GroupOpening, LoadNo, SavesAhead, SavesShape}
use Rattle.group_book.specs.declared.refusal.LoadNo.TheVariants as no
use Rattle.plant_status.specs.declared.mismatch.Place.TheVariants.{Version, Windows}
use Rattle.plant_status.specs.declared.mismatch.Seen.TheVariants.{Number}
use Rattle.plant_status.specs.declared.status.Status.{Status}
use Rattle.plant_status.specs.declared.status.Status.TheVariants.{DeviceFault, Damaged, Mismatch, WantOfMemory}
use Rattle.plant_status.specs.declared.unit.Unit.TheVariants.{Group}
use Rattle.plant_store.specs.Groups.{AreGroupsOpened, DeviceTraces, group_parts_of, input_records_of, group_definition_text, group_trace_at}

-- the status for a group that is not opened
abbrev pub status_of : ℕ → LoadNo → Status
status_of i no.DeviceFault = DeviceFault (Group i)
status_of i (no.Damaged at byte) = Damaged (Group i) at byte
status_of i (no.Ahead input version records) = Mismatch (Version i input) (Number records) (Number version)
status_of i (no.Shape windows rows) = Mismatch (Windows i) (Number windows) (Number rows)
status_of i no.WantOfMemory = WantOfMemory

-- Group i is the first that is refused; those before it are opened. P holds of the group, of the records of its inputs,
-- and of the trace of its device.
pub record IsRefusedAt (groups : List GroupDef) (records : List (List Rec)) (old : DeviceTraces) (i : ℕ)
    (P : GroupDef → List (List Rec) → Trace → Type 0) : Type 0 where
  pub g : GroupDef
  pub openings : List GroupOpening
  pub there : i < length groups
  pub is_group : slice_index_or groups i g ≡ g
  pub as_many : length openings ≡ i
  pub front : AreGroupsOpened i groups records old openings
  pub cause : P g (input_records_of records g) (group_trace_at old g)

-- Why the groups are not opened. The store counted `before` faults before it, and counts `now` after it. There are five
-- causes: a call of a device failed; the bytes of a device break its layout; a saved version is above the number of
-- records of its tag; a saved row does not have one value for each complete window; there was no memory. For a version
-- the status reports the number of records, and then the version. For a row it reports the number of windows, and then
-- the number of values.
pub data IsRefusal (groups : List GroupDef) (records : List (List Rec)) (old : DeviceTraces) (before now : ℕ) (why : Status) : Type 0 where
  OfFault : (i : ℕ) → why ≡ DeviceFault (Group i)
      → IsRefusedAt groups records old i (λ g recovered o. before < 2 ^ 64 → Rose before now)
      → IsRefusal groups records old before now why
  OfDamage : (i at : ℕ) (byte : Option ℕ) → why ≡ Damaged (Group i) at byte
      → IsRefusedAt groups records old i
      (λ g recovered o. Shows o (λ c. IsGroupDamage (group_definition_text g) (length g.inputs.items) (length g.calcs.calcs) c at byte))
      → IsRefusal groups records old before now why
  OfVersion : (i input found version : ℕ) → why ≡ Mismatch (Version i input) (Number found) (Number version)
      → IsRefusedAt groups records old i (λ g recovered o. Shows o (SavesAhead (group_definition_text g) (group_parts_of g) recovered input version found))
      → IsRefusal groups records old before now why
  OfWindows : (i windows rows : ℕ) → why ≡ Mismatch (Windows i) (Number windows) (Number rows)
      → IsRefusedAt groups records old i (λ g recovered o. Shows o (SavesShape (group_definition_text g) (group_parts_of g) recovered windows rows))
      → IsRefusal groups records old before now why
  OfMemory : why ≡ WantOfMemory → IsRefusal groups records old before now why

-- If a call of a group's device failed, the store counts one fault more, and the status reports it. Otherwise it counts
-- none.
abbrev pub CountsStore : {T : Type 0} → Result T Status → ℕ → ℕ → Type 0
CountsStore (Ok x) before now = now ≡ before
CountsStore (Err why) before now = (now ≡ before) ⊎ ((i : ℕ) × (why ≡ DeviceFault (Group i)) × Rose before now)

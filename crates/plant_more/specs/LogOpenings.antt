-- Opening the device of a plant's log, and why it fails.
use Rattle.std.specs.Prelude.{◌≡◌, ◌≢◌, ◌⊎◌, ℕ, ◌^◌, ◌<◌, List, [], false, Result, Ok, Err}
use Rattle.disk_model.specs.{Rose, Shows, sum_of_counts, During, IsNew, Device, Synced, Trace, moment, noted}
use Rattle.trend_num.specs.declared.refusal.What.TheVariants.{Rows}
use Rattle.plant_status.specs.declared.unit.Unit.TheVariants.{Log as LogUnit}
use Rattle.plant_status.specs.declared.status.Status.{Status}
use Rattle.plant_status.specs.declared.status.Status.TheVariants.{Damaged, DeviceFault, Limit, OtherPlant, WantOfMemory}
use Rattle.commit_log.specs.{LogNo, StandsForRows, GainsLogSync, IsLogCause, IsLogLeftOrSame, IsLeftOrStands, ToldLog, log_name}
use Rattle.commit_log.specs.declared.refusal.LogNo.TheVariants as no
use Rattle.archive_file.specs.{TextOpensAt}

-- the traces of a store's devices by name
abbrev pub TracesByName : Type 0
TracesByName = List ℕ → Trace

-- no device but the log's has changed
abbrev pub AreOthersSame : TracesByName → TracesByName → Type 0
AreOthersSame old new = (n : List ℕ) → n ≢ log_name → new n ≡ old n

-- The log of a plant with this text and so many tags is opened on a device with this trace, with room for so many puts.
-- It has the rows for which the device's bytes stood. A crash at any moment since left an image that a crash might have
-- left before, or one that stands for the same rows. If the device was not new, it has gained one sync, and nothing
-- else. The moment of the opening follows from its bytes.
pub record IsLogOpened {D : Type 0} (device : D → Device) (text : List ℕ) (tags room : ℕ) (before : Trace)
    (l : ToldLog D) : Type 0 where
  pub plant : l.plant ≡ text
  pub tags_are : l.tags ≡ tags
  pub room_is : l.room ≡ room
  pub rows : Shows before (λ c. StandsForRows text tags c l.opening)
  pub any_moment : During before (device l.dev).trace (IsLeftOrStands text tags l.opening before)
  pub synced : GainsLogSync before (device l.dev).trace
  pub moment : l.moment ≡ moment (device l.dev).trace
  pub opened_at : TextOpensAt IsNew before l.moment
  pub faults_are : l.faults ≡ 0
  pub faultless : (device l.dev).faults ≡ 0
  pub tape : l.tape ≡ []
  pub usable : l.failed ≡ false

-- Only the log's device may have changed. A crash at any moment since leaves of it an image that a crash might have
-- left before, or one that stands for the same rows.
pub record IsLogKept (text : List ℕ) (tags : ℕ) (old new : TracesByName) : Type 0 where
  pub any_moment : During (old log_name) (new log_name) (IsLogLeftOrSame text tags (old log_name))
  pub others : AreOthersSame old new

-- a device that is not new is unchanged, or has gained one sync and nothing else
abbrev pub GainsSyncAtMost : Trace → Trace → Type 0
GainsSyncAtMost old new = Shows old (λ c. (IsNew c → ⊥) → (new ≡ old) ⊎ (new ≡ noted Synced old))

-- the store has the log's device back under its name, has added the device's faults to its own, and no other device has
-- changed
pub record IsGivenBack {D : Type 0} (device : D → Device) (l : ToldLog D) (old new : TracesByName) (before now : ℕ)
    : Type 0 where
  pub given : new log_name ≡ (device l.dev).trace
  pub others : AreOthersSame old new
  pub counted : now ≡ sum_of_counts before (device l.dev).faults

-- the status for a log that is not opened
abbrev pub status_of : LogNo → Status
status_of no.DeviceFault = DeviceFault LogUnit
status_of (no.Damaged at byte) = Damaged LogUnit at byte
status_of (no.OtherPlant at) = OtherPlant at
status_of (no.TooMany rows) = Limit Rows rows
status_of no.WantOfMemory = WantOfMemory

-- why a log is not opened on a device with this trace, with room for so many puts; the store counted `before` faults
-- before it, and counts `now` after it
pub record IsOpeningRefusal (text : List ℕ) (tags room : ℕ) (o : Trace) (before now : ℕ) (why : Status) : Type 0 where
  pub reason : LogNo
  pub told : why ≡ status_of reason
  pub cause : IsLogCause text tags room o reason
  pub risen : reason ≡ no.DeviceFault → before < 2 ^ 64 → Rose before now

-- If a call of the log's device failed, the store counts one fault more, and the status reports it. Otherwise it counts
-- none.
abbrev pub CountsOpening : {T : Type 0} → Result T Status → ℕ → ℕ → Type 0
CountsOpening (Ok x) before now = now ≡ before
CountsOpening (Err why) before now = (now ≡ before) ⊎ ((why ≡ DeviceFault LogUnit) × Rose before now)

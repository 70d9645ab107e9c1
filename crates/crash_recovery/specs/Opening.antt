-- What opening a tag's device returns.
use Rattle.std.specs.Prelude.{◌≡◌, ◌≢◌, ◌⊎◌, ℕ, ◌+◌, ◌^◌, ◌<◌, ◌≤◌, Bool, true, false, List, length, Some, slice_index}
use Rattle.trend_num.specs.{Limits.most_records, declared.point.Point.Point, declared.tag_def.TagDef.TagDef}
use Rattle.trend_model.specs.{History.Tune, State.State, State.after}
use Rattle.disk_model.specs.{Traces.Trace, Traces.Synced, Traces.moment, Traces.seen, Traces.noted, Images.MayLeave, Moments.During, Gates.open_byte, Gates.layout_calls, Gates.IsOpen, Gates.IsNew, Calls.Shows}
use Rattle.device_layout.specs.declared.failure.OpenNo.TheVariants.{DeviceFault, Damaged, WantOfMemory}
use Rattle.device_layout.specs.{declared.failure.OpenNo.OpenNo, Headers.slots_in, Recovery.header_of, Recovery.counting, Recovery.Recovers, Layouts.IsMade, Damages.StandsThere, Damages.IsValuePlace}
use Rattle.event_queue.specs.{Slots.gate_of, Slots.batch_at, Lanes.IsStale, Places.IsFilled}
use Rattle.archive_file.specs.{PutNo}
use Rattle.crash_recovery.specs.{Journals.AllRecover, Journals.taken_of, Seats.checkpoint_calls}
use Rattle.archive_file.specs.declared.failure.PutNo.TheVariants as put

-- another tuning than the wanted one is in force in s, which has room for two records more, and r is s retuned
abbrev pub IsRetuned : TagDef → State → State → Type 0
IsRetuned def s r = (s.summary.tuning ≢ Some def.tuning) × (r ≡ after def.step s (Tune def.tuning))
    × (length s.records + 2 ≤ most_records)

-- what opening makes of a tag that recovers s: s itself if the wanted tuning is in force, and else s retuned
abbrev pub IsOpenedAs : TagDef → State → State → Type 0
IsOpenedAs def s r = ((s.summary.tuning ≡ Some def.tuning) × (r ≡ s))
    ⊎ IsRetuned def s r

-- what is recovered need not be retuned, or has taken fewer than 10^18 events with the retuning
abbrev pub IsCountable : TagDef → List ℕ → Type 0
IsCountable def c = (s : State) → Recovers def c s
    → (s.summary.tuning ≡ Some def.tuning) ⊎ (s.summary.taken + 1 < 10 ^ 18)

-- an image recovers what these bytes recover, or that state as it is opened
abbrev pub RecoversSame : TagDef → List ℕ → List ℕ → Type 0
RecoversSame def seen c = (s : State) × (r : State) × Recovers def seen s × IsOpenedAs def s r
    × (Recovers def c s ⊎ Recovers def c r)

-- an image that a crash might have left before, or that recovers the same
abbrev pub IsTagLeftOrSame : TagDef → Trace → List ℕ → Type 0
IsTagLeftOrSame def o c = MayLeave o c ⊎ RecoversSame def (seen o) c

-- if what the device shows is countable, a crash at any moment since leaves such an image
abbrev pub StaysSame : TagDef → Trace → Trace → Type 0
StaysSame def old new = IsCountable def (seen old)
    → During old new (IsTagLeftOrSame def old)

-- if the same holds, a crash now leaves what recovers this state
abbrev pub RecoversThen : TagDef → Trace → Trace → State → Type 0
RecoversThen def old new r = IsCountable def (seen old) → AllRecover def new r

-- a lane in use that holds a value of this number
pub record HoldsValue (slots taken used n : ℕ) (c : List ℕ) : Type 0 where
  pub next : ℕ
  pub held : List Point
  pub filled : IsFilled slots taken used next c held
  pub there : n < length held

-- the refusal names value n of the lane as one that finds no room, or a call of the device has failed
abbrev pub IsOverfull : Trace → ℕ → ℕ → ℕ → OpenNo → Type 0
IsOverfull o slots taken n (Damaged a byte) =
    Shows o (λ c. (j : ℕ) × (i : ℕ) × IsValuePlace slots c taken n a j i × StandsThere c a byte)
IsOverfull o slots taken n DeviceFault = Unit {0}
IsOverfull o slots taken n why = ⊥

-- this state is s as it is opened, retuned or not
abbrev pub OpensAs : TagDef → Bool → State → State → Type 0
OpensAs def false s r = (s.summary.tuning ≡ Some def.tuning) × (r ≡ s)
OpensAs def true s r = IsRetuned def s r

-- a new device gets the wanted number of lane slots, and any other keeps the number in its header
abbrev pub HasSlots : ℕ → ℕ → List ℕ → Type 0
HasSlots wanted slots c = (IsNew c × (slots ≡ wanted)) ⊎ ((IsNew c → ⊥) × (slots ≡ slots_in (header_of c)))

-- the device now recovers what it showed at first, and this is that state as it is opened
abbrev pub IsReadAs : TagDef → Trace → Trace → Bool → State → Type 0
IsReadAs def old new retuned r = Shows old (λ c. (s : State) × Recovers def c s × AllRecover def new s
    × OpensAs def retuned s r)

-- the refusal to open if a checkpoint or a layout could not be written
abbrev pub refusal_of_put : PutNo → OpenNo
refusal_of_put put.DeviceFault = DeviceFault
refusal_of_put put.WantOfMemory = WantOfMemory

-- ---- what happens to the device

-- the first `used` lane slots are open, with values that the summary does not count, and the others are closed
pub record AreUsed (slots used : ℕ) (c : List ℕ) : Type 0 where
  pub opened : (k : ℕ) → k < used → IsOpen (gate_of k) c
  pub beyond : (k : ℕ) → k < used
      → taken_of c (counting c) < (batch_at slots c k).first + (batch_at slots c k).count
  pub shut : (k : ℕ) → used ≤ k → k < slots → slice_index c (gate_of k) ≢ open_byte

-- the summary that counts has overtaken each open lane slot
abbrev pub AreOvertaken : ℕ → List ℕ → Type 0
AreOvertaken slots c = (k : ℕ) → k < slots → IsOpen (gate_of k) c
    → IsStale (taken_of c (counting c)) (batch_at slots c k)

-- so many lane slots are free on a device whose layout was finished: all if each open one is overtaken, and else those
-- after the used ones
abbrev pub HasFree : ℕ → ℕ → List ℕ → Type 0
HasFree slots free c = (AreOvertaken slots c × (free ≡ slots)) ⊎ ((used : ℕ) × AreUsed slots used c × (used + free ≡ slots))

-- the same of any device as it is read: all slots of a new device are free
pub record HasFreeAtFirst (slots free : ℕ) (c : List ℕ) : Type 0 where
  pub new : IsNew c → free ≡ slots
  pub begun : (IsNew c → ⊥) → HasFree slots free c

-- the same of a device as it is opened: all slots are free if it is new or the tag was retuned
pub record LeavesFree (def : TagDef) (slots free : ℕ) (c : List ℕ) : Type 0 where
  pub new : IsNew c → free ≡ slots
  pub retuned : (s : State) → Recovers def c s → s.summary.tuning ≢ Some def.tuning → free ≡ slots
  pub kept : (IsNew c → ⊥) → (s : State) → Recovers def c s → s.summary.tuning ≡ Some def.tuning
      → HasFree slots free c

-- a new device now has a whole layout with so many lane slots
abbrev pub MakesLayout : TagDef → ℕ → Trace → Trace → Type 0
MakesLayout def slots old new = Shows old (λ c. IsNew c → Shows new (IsMade def slots))

-- a device that is not new, and whose tag is not retuned, gains only a sync
abbrev pub GainsSync : TagDef → Trace → Trace → Type 0
GainsSync def old new = Shows old (λ c. (IsNew c → ⊥) → (s : State) → Recovers def c s
    → s.summary.tuning ≡ Some def.tuning → new ≡ noted Synced old)

-- How many calls a device has made at the end of an opening, if it made `before` until then and has these bytes. It begins
-- with a sync. A new device is given its layout, and the device of a tag that is retuned gains a checkpoint.
pub record CountsOpening (def : TagDef) (c : List ℕ) (before now : ℕ) : Type 0 where
  pub new : IsNew c → now ≡ before + (layout_calls c + 1)
  pub kept : (IsNew c → ⊥) → (s : State) → Recovers def c s → s.summary.tuning ≡ Some def.tuning → now ≡ before + 1
  pub retuned : (s : State) → Recovers def c s → s.summary.tuning ≢ Some def.tuning
      → now ≡ before + (checkpoint_calls (length (after def.step s (Tune def.tuning)).records) c + 1)

-- the opening of a device that had these calls ends at this moment
abbrev pub OpensAt : TagDef → Trace → ℕ → Type 0
OpensAt def old t = Shows old (λ c. CountsOpening def c (moment old) t)

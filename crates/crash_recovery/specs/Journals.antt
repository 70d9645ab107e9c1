-- What a journal shows, and how it relates to its device.
use Rattle.std.specs.Prelude.{◌≡◌, ◌⊎◌, ℕ, ◌+◌, ◌*◌, ◌-◌, ◌<◌, ◌≤◌, Bool, true, false, if◌then◌else◌, List, length, Option, None, Some, Result, OnOk}
use Rattle.trend_num.specs.{TagDef}
use Rattle.trend_model.specs.{History.Event, State.State, State.replay}
use Rattle.disk_model.specs.{Traces.Trace, Traces.seen, Images.Now, Images.IsSettled, Moments.During, Gates.IsOpen, Gates.open_gates}
use Rattle.event_queue.specs.{Slots.gate_of, Slots.lane_end, Slots.batch_at, Lanes.IsStale, Lanes.lane_points, Lanes.IsLane, Places.HasRoom}
use Rattle.device_layout.specs.{header_of, taken_in, records_in, counting, Recovers, Headers.slots_in, Headers.IsHeader, declared.slot.Slot.Slot}
use Rattle.crash_recovery.specs.declared.seat.Seat.{Seat}

-- ---- what it shows

-- a journal on a device of this type: how many events are acknowledged, how many lane slots there are, and how many of
-- them are free; and whether a call of the device has failed
pub record Logged (D : Type 0) : Type 0 where
  pub dev : D
  pub acked : ℕ
  pub slots : ℕ
  pub free : ℕ
  pub failed : Bool

-- each image that a crash now may leave recovers this state
abbrev pub AllRecover : TagDef → Trace → State → Type 0
AllRecover def o s = Now o (λ c. Recovers def c s)

-- a state of the tag's kind that continues by some events from what is recovered
abbrev pub GoesOnFrom : TagDef → State → Bool → State → Type 0
GoesOnFrom def s step r = (step ≡ def.step) × ((events : List Event) × (r ≡ replay def.step s events))

-- an image recovers the one state or the other
abbrev pub RecoversEither : TagDef → State → State → List ℕ → Type 0
RecoversEither def s r c = Recovers def c s ⊎ Recovers def c r

-- a crash at any moment of a call leaves an image that recovers the one state or the other; at Ok, it recovers the
-- latter
pub record LeavesEither {T E : Type 0} (def : TagDef) (old new : Trace) (s r : State)
    (result : Result T E) : Type 0 where
  pub any_moment : During old new (RecoversEither def s r)
  pub durable : OnOk result (AllRecover def new r)

-- n more events are acknowledged, in one more lane slot
pub record IsCommitted {D : Type 0} (n : ℕ) (old new : Logged D) : Type 0 where
  pub acked : new.acked ≡ old.acked + n
  pub free : new.free + 1 ≡ old.free
  pub slots : new.slots ≡ old.slots
  pub usable : new.failed ≡ false

-- so many events are acknowledged, and each lane slot is free
pub record IsCheckpointed {D : Type 0} (taken : ℕ) (old new : Logged D) : Type 0 where
  pub acked : new.acked ≡ taken
  pub free : new.free ≡ new.slots
  pub slots : new.slots ≡ old.slots
  pub usable : new.failed ≡ false

-- as much is acknowledged and free as before, and this says whether a call of the device has failed
pub record StaysAs {D : Type 0} (is_failed : Bool) (old new : Logged D) : Type 0 where
  pub acked : new.acked ≡ old.acked
  pub free : new.free ≡ old.free
  pub slots : new.slots ≡ old.slots
  pub failed : new.failed ≡ is_failed

-- ---- how it relates to its device

-- how many events the summary that counts has, and how many records
abbrev pub taken_of : List ℕ → Option Slot → ℕ
taken_of c None = 0
taken_of c (Some i) = taken_in c i

abbrev pub journal_records_of : List ℕ → Option Slot → ℕ
journal_records_of c None = 0
journal_records_of c (Some i) = records_in c i

-- the lane keeps the layout, and its first `used` slots are numbered from the summary on, up to `next`
pub record IsInUse (slots taken used next : ℕ) (c : List ℕ) : Type 0 where
  pub lane : IsLane slots c taken slots
  pub opened : (k : ℕ) → k < used → IsOpen (gate_of k) c
  pub beyond : (k : ℕ) → k < used → taken < (batch_at slots c k).first + (batch_at slots c k).count
  pub number : next ≡ taken + length (lane_points slots c taken)

-- where the records end that the summary counts
abbrev pub log_end : Seat → ℕ
log_end p = lane_end p.lane.slots + 17 * p.records

-- a place on a device of these bytes; it claims nothing of what an overtaken lane holds
pub record IsLaid (p : Seat) (c : List ℕ) : Type 0 where
  pub opened : IsOpen 0 c
  pub header : IsHeader (header_of c)
  pub slots : p.lane.slots ≡ slots_in (header_of c)
  pub room : HasRoom p.lane.slots p.lane.used c
  pub counts : p.counts ≡ counting c
  pub taken : p.taken ≡ taken_of c p.counts
  pub records : p.records ≡ journal_records_of c p.counts
  pub long : log_end p ≤ length c
  pub in_use : p.stale ≡ false → IsInUse p.lane.slots p.taken p.lane.used p.lane.next c
  pub number : p.stale ≡ true → p.lane.next ≡ p.taken

-- the summary has overtaken each open lane slot
pub record IsOverrun (p : Seat) (c : List ℕ) : Type 0 where
  pub stale : (k : ℕ) → k < p.lane.slots → IsOpen (gate_of k) c → IsStale p.taken (batch_at p.lane.slots c k)

-- a place on a device of these bytes; an overtaken lane has an open slot, and each open one is stale
pub record IsSeat (p : Seat) (c : List ℕ) : Type 0 where
  pub laid : IsLaid p c
  pub overrun : p.stale ≡ true → IsOverrun p c
  pub some : p.stale ≡ true → 0 < open_gates (gate_of 0) p.lane.slots c

-- a device on which that is a place, and of which a crash leaves what a read returns
pub record IsSeated (p : Seat) (t : Trace) : Type 0 where
  pub settled : IsSettled t
  pub seat : IsSeat p (seen t)

-- the same, as one fact that nothing looks into
unfoldable pub SeatedOn : Seat → Trace → Type 0
SeatedOn p t = IsSeated p t

-- how many lane slots are free; all of them if the lane is stale, because its gates are closed before the next write
abbrev pub free_in : Seat → ℕ
free_in p = if p.stale then p.lane.slots else p.lane.slots - p.lane.used

-- if each lane slot is free, the lane holds nothing that the summary does not count
abbrev pub IsNumbered : Seat → Type 0
IsNumbered p = free_in p ≡ p.lane.slots → p.lane.next ≡ p.taken

-- what is true of each journal
pub record IsJournal (p : Seat) (failed : Bool) (o : Trace) : Type 0 where
  pub within : p.lane.used ≤ p.lane.slots
  pub some : 1 ≤ p.lane.slots
  pub few : p.lane.slots ≤ 65536
  pub numbered : IsNumbered p
  pub seated : failed ≡ false → SeatedOn p o

-- What the steps of a journal keep true of its place, and what they make of the device.
use Rattle.std.specs.Prelude.{◌≡◌, ◌≢◌, ◌⊎◌, ◌==◌, ℕ, ◌+◌, ◌<◌, ◌≤◌, nat_lt, if◌then◌else◌, false, List, length, drop, slice_index, Option, None, Some}
use Rattle.trend_num.specs.{Rec}
use Rattle.disk_model.specs.{Traces.Trace, Traces.seen, Images.IsSettled, Gates.open_byte, Gates.open_gate, Gates.open_gates, Gates.IsShut, Gates.Holds, Moments.ComesAfter}
use Rattle.archive_file.specs.{recs_image}
use Rattle.crash_recovery.specs.declared.seat.Seat.{Seat}
use Rattle.crash_recovery.specs.Journals.{log_end, journal_records_of, IsLaid, IsOverrun}
use Rattle.device_layout.specs.{declared.slot.Slot.Slot, declared.slot.Slot.TheVariants.First, declared.slot.Slot.TheVariants.Second, Headers.slots_in, Recovery.header_of, Recovery.summary_gate, Recovery.counting}
use Rattle.event_queue.specs.{gate_of}

-- the slot into which the next summary goes: one that does not count
abbrev pub spare_slot : Option Slot → Slot
spare_slot None = First
spare_slot (Some First) = Second
spare_slot (Some Second) = First

-- a device on which that is a place, whatever an overtaken lane holds, and of which a crash leaves what a read returns
pub record IsLaidOut (p : Seat) (t : Trace) : Type 0 where
  pub settled : IsSettled t
  pub laid : IsLaid p (seen t)

-- the same, as one fact that nothing looks into
unfoldable pub LaidOn : Seat → Trace → Type 0
LaidOn p t = IsLaidOut p t

-- the summary has overtaken each open lane slot of the device
abbrev pub OverrunOn : Seat → Trace → Type 0
OverrunOn p o = IsOverrun p (seen o)

-- the place once the gates of an overtaken lane are closed
abbrev pub restarted : Seat → Seat
restarted p = record p { stale = false; lane = record p.lane { used = 0 } }

-- new is old with more bytes after the log, and with that gate as it was or closed
pub record IsLogged (at gate : ℕ) (old new : List ℕ) : Type 0 where
  pub no_shorter : length old ≤ length new
  pub same : (i : ℕ) → i < at → i ≢ gate → slice_index new i ≡ slice_index old i
  pub gate_same : (slice_index new gate ≢ open_byte) ⊎ (slice_index new gate ≡ slice_index old gate)

-- all is there for a summary of these records: its gate is closed, and after the log lie the records that were not
-- counted
pub record IsReady (p : Seat) (gate : ℕ) (recs : List Rec) (c : List ℕ) : Type 0 where
  pub shut : IsShut gate c
  pub logged : Holds (log_end p) (recs_image (drop p.records recs)) c

-- the same of a device
abbrev pub ReadyOn : Seat → ℕ → List Rec → Trace → Type 0
ReadyOn p gate recs o = IsReady p gate recs (seen o)

-- ---- how many calls a checkpoint makes

-- how many close the open gates of a lane with so many slots: a write for each and a sync, or none if none is open
abbrev pub lane_calls : ℕ → List ℕ → ℕ
lane_calls slots c = if open_gates (gate_of 0) slots c == 0 then 0 else open_gates (gate_of 0) slots c + 1

-- how many write the records behind the stored ones: one, or none if there are none
abbrev pub record_calls : ℕ → ℕ → ℕ
record_calls stored records = if nat_lt stored records then 1 else 0

-- How many make a checkpoint with so many records on a device with these bytes. First the records are written that the summary
-- does not count. If the gate of the next summary's slot is open, one call closes it, and then comes a sync. Four write the
-- summary, and the others close the lane.
abbrev pub checkpoint_calls : ℕ → List ℕ → ℕ
checkpoint_calls records c = record_calls (journal_records_of c (counting c)) records
    + (open_gate (summary_gate (spare_slot (counting c))) c + 5) + lane_calls (slots_in (header_of c)) c

-- of these, so many close the gates of an overtaken lane before anything is written
abbrev pub stale_calls : Seat → List ℕ → ℕ
stale_calls p c = if p.stale then open_gates (gate_of 0) p.lane.used c + 1 else 0

-- and so many write the records, and close the gate of the next summary
abbrev pub log_calls : Seat → ℕ → List ℕ → ℕ
log_calls p records c = record_calls p.records records + (open_gate (summary_gate (spare_slot p.counts)) c + 1)

-- over some calls, the bytes that a read returns of these places stay the same
pub record KeepsPlaces (from to : ℕ) (old new : Trace) : Type 0 where
  pub later : ComesAfter old new
  pub same : (i : ℕ) → from ≤ i → i < to → slice_index (seen new) i ≡ slice_index (seen old) i

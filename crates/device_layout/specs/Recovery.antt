-- What an image of a tag's device recovers: the records of its log, the summary that counts, and what the lane holds
-- beyond that summary. All of it is read of bytes at places, so it applies to each image that a crash may leave.
use Rattle.std.specs.Prelude.{◌≡◌, ◌⊎◌, ℕ, ◌+◌, ◌≤◌, Bool, true, false, List, [], ◌∷◌, length, take, drop, map, slice_index, nat_eq, nat_le, Option, None, Some}
use Rattle.std.specs.Int.{w32, w64, from_be_bytes}
use Rattle.trend_num.specs.{most_records, Rec, Summary, Tuning, TagDef}
use Rattle.trend_model.specs.{Event, Raw, ArePartsOk}
use Rattle.trend_model.specs.State.{State, nothing_taken, after, replay}
use Rattle.disk_model.specs.{open_byte, IsOpen, IsNew}
use Rattle.archive_file.specs.{HasRecords, summary_image, IsSummary}
use Rattle.event_queue.specs.{lane_end, lane_points, IsLane}
use Rattle.device_layout.specs.declared.slot.Slot.{Slot}
use Rattle.device_layout.specs.declared.slot.Slot.TheVariants.{First, Second}
use Rattle.device_layout.specs.Headers.{name_in, tuning_in, slots_in, is_step_in, IsHeader}

-- ---- the header

-- its bytes
abbrev pub header_of : List ℕ → List ℕ
header_of c = take 128 c

-- where the records begin
abbrev pub log_place : List ℕ → ℕ
log_place c = lane_end (slots_in (header_of c))

-- ---- the summary

-- where a summary slot begins, and where its gate is
abbrev pub summary_place : Slot → ℕ
summary_place First = 128
summary_place Second = 256

abbrev pub summary_gate : Slot → ℕ
summary_gate First = 384
summary_gate Second = 385

abbrev pub slot_bytes : List ℕ → Slot → List ℕ
slot_bytes c i = take 128 (drop (summary_place i) c)

abbrev pub is_open : List ℕ → Slot → Bool
is_open c i = nat_eq (slice_index c (summary_gate i)) open_byte

-- how many events the summary in a slot counts, and how many records
abbrev pub taken_in : List ℕ → Slot → ℕ
taken_in c i = from_be_bytes w64 (take 8 (slot_bytes c i))

abbrev pub records_in : List ℕ → Slot → ℕ
records_in c i = from_be_bytes w32 (take 4 (drop 8 (slot_bytes c i)))

-- that of the open summary slots which counts more events; the first if both count the same
abbrev pub chosen : Bool → Bool → Bool → Option Slot
chosen true true true = Some First
chosen true true false = Some Second
chosen true false first = Some First
chosen false true first = Some Second
chosen false false first = None

-- the summary slot that counts
abbrev pub counting : List ℕ → Option Slot
counting c = chosen (is_open c First) (is_open c Second) (nat_le (taken_in c Second) (taken_in c First))

-- the summary before the first checkpoint, which counts nothing
abbrev pub no_summary : Summary
no_summary = record {
  taken = 0;
  records = 0;
  held = None;
  pending = None;
  hinge = None;
  upper = None;
  lower = None;
  tuning = None;
}

-- this is the summary of that slot
abbrev pub HasSummary : List ℕ → Option Slot → Summary → Type 0
HasSummary c None s = s ≡ no_summary
HasSummary c (Some i) s = IsSummary s × (slot_bytes c i ≡ summary_image s)

-- the tuning in force, of a summary of a tag that was made with the given one
abbrev pub recovered_tuning : Tuning → Option Tuning → Tuning
recovered_tuning made None = made
recovered_tuning made (Some u) = u

-- ---- the state

-- two more records find room at each of these events
abbrev pub AllFit : Bool → State → List Event → Type 0
AllFit step s [] = Unit {0}
AllFit step s (e ∷ events) = (length s.records + 2 ≤ most_records) × AllFit step (after step s e) events

-- the state of these records and this summary, in which that tuning is in force
abbrev pub state_of : List Rec → Summary → Tuning → State
state_of rs s u = record { records = rs; summary = record s { tuning = Some u } }

-- the state from which the lane continues; a summary without a tuning has that of the header
abbrev pub start_of : List ℕ → List Rec → Summary → State
start_of c rs s = state_of rs s (recovered_tuning (tuning_in (header_of c)) s.tuning)

-- the layout is whole, and the device is this tag's
pub record IsOfTag (def : TagDef) (c : List ℕ) : Type 0 where
  pub opened : IsOpen 0 c
  pub header : IsHeader (header_of c)
  pub same_name : name_in (header_of c) ≡ def.name
  pub same_step : is_step_in (header_of c) ≡ def.step

-- the records and the summary that counts
pub record IsStored (def : TagDef) (c : List ℕ) (rs : List Rec) (s : Summary) : Type 0 where
  pub tag : IsOfTag def c
  pub long : log_place c ≤ length c
  pub summary : HasSummary c (counting c) s
  pub records : HasRecords c (log_place c) s.records rs
  pub parts : ArePartsOk (recovered_tuning (tuning_in (header_of c)) s.tuning) def.step rs s

-- the values that the lane holds beyond the first `taken` events
abbrev pub values_beyond : List ℕ → ℕ → List Event
values_beyond c taken = map Raw (lane_points (slots_in (header_of c)) c taken)

-- the lane keeps the layout, and its values find room and lead from the first state to this one
pub record IsReplayed (step : Bool) (c : List ℕ) (start : State) (taken : ℕ) (s : State) : Type 0 where
  pub lane : IsLane (slots_in (header_of c)) c taken (slots_in (header_of c))
  pub fits : AllFit step start (values_beyond c taken)
  pub state : s ≡ replay step start (values_beyond c taken)

-- the state that a whole layout recovers
abbrev pub IsRecovered : TagDef → List ℕ → State → Type 0
IsRecovered def c s = (rs : List Rec) × (summary : Summary) × IsStored def c rs summary
    × IsReplayed def.step c (start_of c rs summary) summary.taken s

-- an image of this tag's device recovers this state; a new device recovers the state before any event
abbrev pub Recovers : TagDef → List ℕ → State → Type 0
Recovers def c s = (IsNew c × (s ≡ nothing_taken def.tuning)) ⊎ IsRecovered def c s

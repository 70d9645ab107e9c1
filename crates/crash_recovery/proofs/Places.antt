-- The place of a journal, where only the lane has changed, or only what no summary counts.
use Rattle.disk_model.specs.{Shows, Reaches, Traces.Trace, Images.IsOutside, Images.IsSettled, Gates.open_byte}
use Rattle.std.proofs.Common.{◌≡◌, ◌≢◌, ◌⊎◌, inl, ℕ, ◌+◌, ◌*◌, ◌<◌, ◌≤◌, Bool, true, false, List, length, get_or, take, drop, Option, Some, sym, ◌∙◌, arith}
use Rattle.event_queue.specs.{Slots.lane_end, Places.HasRoom}
use Rattle.crash_recovery.specs.{Seat, log_end, IsInUse, IsLaid, IsSeat, SeatedOn, spare_slot, LaidOn, OverrunOn}
use Rattle.device_layout.specs.declared.slot.Slot.{Slot, TheVariants.First, TheVariants.Second}
use Rattle.device_layout.specs.{summary_place, summary_gate, slot_bytes}
use Rattle.crash_recovery.proofs.{Pieces.same_piece, Counting.same_counting, Counting.counting_left}
use Rattle.crash_recovery.proofs.Stored.{KeepsStored, taken_kept, records_kept}

-- ---- only the lane has changed

pub record OnlyLane (slots : ℕ) (a b : List ℕ) : Type 0 where
  pub no_shorter : length a ≤ length b
  pub same : (i : ℕ) → i < length a → (i < 400) ⊎ (lane_end slots ≤ i) → get_or b i 0 ≡ get_or a i 0

-- then all that is stored was kept
pub only_lane : (p : Seat) (a b : List ℕ) → IsLaid p a → OnlyLane p.lane.slots a b → KeepsStored p a b
only_lane p a b laid only = record {
  no_shorter = only.no_shorter;
  first = only.same 0 (omega (arith, laid.long)) (inl (omega arith));
  header = front 0 128 (omega arith);
  counts = same_counting a b (only.same 384 (omega (arith, laid.long)) (inl (omega arith)))
      (only.same 385 (omega (arith, laid.long)) (inl (omega arith))) (front 128 128 (omega arith))
      (front 256 128 (omega arith));
  summary = λ i is. slot_same i;
  log = grind (arith, same_piece);
}
  where
    front : (at n : ℕ) → at + n ≤ 400 → take n (drop at b) ≡ take n (drop at a)
    front at n le = grind (arith, same_piece)

    slot_same : (i : Slot) → slot_bytes b i ≡ slot_bytes a i
    slot_same First = front 128 128 (omega arith)
    slot_same Second = front 256 128 (omega arith)

-- ---- only the slot that does not count, its gate, and what is after the log have changed

pub record OnlySpare (counts : Option Slot) (end : ℕ) (a b : List ℕ) : Type 0 where
  pub no_shorter : length a ≤ length b
  pub same : (i : ℕ) → i < end → IsOutside (summary_place (spare_slot counts)) 128 i
      → i ≢ summary_gate (spare_slot counts)
      → get_or b i 0 ≡ get_or a i 0

-- the two slots and their gates lie apart, after the header and before the lane
apart_slot : (j i : Slot) → j ≢ i → (k : ℕ) → summary_place i ≤ k → k < summary_place i + 128
    → IsOutside (summary_place j) 128 k × (k ≢ summary_gate j)
apart_slot x1 x2 apart k low below = grind arith

-- a gate is no part of a slot, nor the other gate
apart_gate : (j i : Slot) → j ≢ i → IsOutside (summary_place j) 128 (summary_gate i)
    × (summary_gate i ≢ summary_gate j)
apart_gate x1 x2 apart = grind arith

-- the header is no part of them
pub apart_front : (j : Slot) (k : ℕ) → k < 128 → IsOutside (summary_place j) 128 k × (k ≢ summary_gate j)
apart_front x1 k below = grind arith

-- nor is the lane
pub apart_lane : (j : Slot) (k : ℕ) → 400 ≤ k → IsOutside (summary_place j) 128 k × (k ≢ summary_gate j)
apart_lane x1 k low = grind arith

-- a slot lies before both gates
pub slot_within : (j : Slot) → summary_place j + 128 ≤ 384
slot_within x1 = grind arith

-- a gate lies before the lane
pub gate_within : (j : Slot) → summary_gate j < 400
gate_within x1 = grind arith

-- the slot that counts is not the other one
pub spare_other : (counts : Option Slot) (i : Slot) → counts ≡ Some i → spare_slot counts ≢ i
spare_other x1 i is = grind arith

module _ (p : Seat) (a b : List ℕ) (laid : IsLaid p a) (only : OnlySpare p.counts (log_end p) a b) where
  -- any other slot and its gate are as they were
  pub others_kept : (i : Slot) → spare_slot p.counts ≢ i
      → (get_or b (summary_gate i) 0 ≡ get_or a (summary_gate i) 0) × (slot_bytes b i ≡ slot_bytes a i)
  others_kept i apart =
      let gate = apart_gate (spare_slot p.counts) i apart in
      let within = slot_within i in (
        only.same (summary_gate i) (omega (arith, gate_within i)) gate.0 gate.1,
        same_piece (summary_place i) 128 a b (omega (arith, within, laid.long))
            (omega (arith, within, laid.long, only.no_shorter)) (λ k low below.
            let out = apart_slot (spare_slot p.counts) i apart k low below in
            only.same k (omega (arith, within, below)) out.0 out.1),
      )

  -- the header is as it was
  pub front_kept : (n : ℕ) → n ≤ 128 → take n b ≡ take n a
  front_kept n le = same_piece 0 n a b (omega (arith, le, laid.long))
      (omega (arith, le, laid.long, only.no_shorter))
      (λ k low below. grind (arith, apart_front))

  -- and its gate
  pub first_kept : get_or b 0 0 ≡ get_or a 0 0
  first_kept = grind (arith, apart_front)

  -- the lane and the log are as they were
  pub behind_kept : (k : ℕ) → 400 ≤ k → k < log_end p → get_or b k 0 ≡ get_or a k 0
  behind_kept k low below = let out = apart_lane (spare_slot p.counts) k low in only.same k below out.0 out.1

  -- so the log is
  pub log_kept : take (17 * p.records) (drop (lane_end p.lane.slots) b) ≡ take (17 * p.records)
      (drop (lane_end p.lane.slots) a)
  log_kept = grind (arith, same_piece, behind_kept)

  -- where the slot that does not count was shut or left as it was, all that is stored was kept
  pub only_spare : (get_or b (summary_gate (spare_slot p.counts)) 0 ≢ open_byte)
      ⊎ ((get_or b (summary_gate (spare_slot p.counts)) 0 ≡ get_or a (summary_gate (spare_slot p.counts)) 0)
      × (slot_bytes b (spare_slot p.counts) ≡ slot_bytes a (spare_slot p.counts))) → KeepsStored p a b
  only_spare spare = record {
    no_shorter = only.no_shorter;
    first = first_kept;
    header = front_kept 128 (omega arith);
    counts = counting_left p.counts a b (sym laid.counts) (record { others = others_kept; spare = spare })
        ∙ laid.counts;
    summary = λ i is. (others_kept i (spare_other p.counts i is)).1;
    log = log_kept;
  }

-- ---- the place

-- a place that is elsewhere in its lane
abbrev pub moved : Seat → Bool → ℕ → ℕ → Seat
moved p stale used next = record p { stale = stale; lane = record p.lane { used = used; next = next } }

-- it is a place where what is stored was kept
pub laid_moved : (p : Seat) (stale : Bool) (used next : ℕ) (a b : List ℕ) → IsLaid p a → KeepsStored p a b
    → HasRoom p.lane.slots used b → (stale ≡ false → IsInUse p.lane.slots p.taken used next b)
    → (stale ≡ true → next ≡ p.taken) → IsLaid (moved p stale used next) b
laid_moved p stale used next a b laid keeps room in_use number = grind (arith, taken_kept, records_kept)

-- what a journal keeps is more
pub laid_on : (p : Seat) (o : Trace) → SeatedOn p o → LaidOn p o
unfolding SeatedOn LaidOn
laid_on p t seated = record { settled = seated.settled; laid = seated.seat.laid }

-- a place that is not overtaken
pub seated_on : (p : Seat) (o : Trace) → p.stale ≡ false → LaidOn p o → SeatedOn p o
unfolding SeatedOn LaidOn
seated_on p t fresh laid = grind arith

-- an overtaken one
pub overrun_on : (p : Seat) (o : Trace) → SeatedOn p o → p.stale ≡ true → OverrunOn p o
unfolding SeatedOn
overrun_on p t seated is = seated.seat.overrun is

-- what a read of a journal's device gives
pub seat_shown : (p : Seat) (o : Trace) → SeatedOn p o → Shows o (IsSeat p)
unfolding SeatedOn
seat_shown p t seated = seated.seat

-- and back
pub seated_again : (p : Seat) (o : Trace) → IsSettled o → Shows o (IsSeat p) → SeatedOn p o
unfolding SeatedOn
seated_again p t settled seat = record { settled = settled; seat = seat }

-- its parts
pub settled_on : (p : Seat) (o : Trace) → LaidOn p o → IsSettled o
unfolding LaidOn
settled_on p t laid = laid.settled

-- what a read gives
pub laid_shown : (p : Seat) (o : Trace) → LaidOn p o → Shows o (IsLaid p)
unfolding LaidOn
laid_shown p t laid = laid.laid

-- and back
pub laid_again : (p : Seat) (o : Trace) → IsSettled o → Shows o (IsLaid p) → LaidOn p o
unfolding LaidOn
laid_again p t settled laid = record { settled = settled; laid = laid }

-- ---- what the calls need

-- so is all that is before the end of the log
pub reaches_on : (p : Seat) (o : Trace) (n : ℕ) → LaidOn p o → n ≤ log_end p → Reaches o n
unfolding LaidOn
reaches_on p t n laid le = omega (arith, le, laid.laid.long)

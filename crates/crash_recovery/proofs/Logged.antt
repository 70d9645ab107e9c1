-- Records are written after the log, and the gate of the slot that does not count is closed.
use Rattle.disk_model.specs.{Calls.Shows, Calls.IsNoted, Calls.Sees, Traces.Wrote, Traces.WroteInPart, Traces.Trace, Traces.seen, Traces.written, Images.IsOutside, Images.IsTorn, Images.Now, Images.FromOld, Images.IsSettled, Moments.During}
use Rattle.disk_model.specs.{Gates.IsShut, Gates.HasGatesOf, Gates.AreShut, Gates.IsClosing, Gates.Holds}
use Rattle.std.proofs.Common.{◌≡◌, ◌≢◌, inl, inr, ℕ, ◌+◌, ◌-◌, ◌<◌, ◌≤◌, min, List, length, take, drop, Result, sym, ◌∙◌, ap, subst, arith, length-drop}
use Rattle.std.proofs.lemmas.List.{take_all, drop_min}
use Rattle.trend_num.specs.{declared.archive.Rec.Rec, declared.tag_def.TagDef.TagDef}
use Rattle.trend_model.specs.State.{State}
use Rattle.disk_model.proofs.{Bytes.torn_self, Bytes.length-written, Bytes.holds_written, Images.present, Images.wrote_now, Moments.started, Moments.during_now, Moments.weaker, Moments.in_turn, Moments.goes_on, Closings.closing_self}
use Rattle.archive_file.specs.{recs_image}
use Rattle.event_queue.specs.{HasRoom}
use Rattle.event_queue.proofs.SameLanes.{HasSameSlots, same_bytes, same_lane, same_points, same_beyond}
use Rattle.crash_recovery.specs.{Seat, AllRecover, IsInUse, log_end, IsLaid, spare_slot, LaidOn, IsLogged, ReadyOn}
use Rattle.device_layout.specs.{Slot, summary_place, summary_gate, slot_bytes, Recovers}
use Rattle.crash_recovery.proofs.Pieces.{same_piece}
use Rattle.crash_recovery.proofs.Stored.{KeepsStored, KeepsLane, recovers_same}
use Rattle.crash_recovery.proofs.DeviceReads.{now_shown, shown_now, shown_both, during_from, shown_from}
use Rattle.crash_recovery.proofs.Places.{OnlySpare, slot_within, gate_within, behind_kept, only_spare, laid_moved, settled_on, laid_shown, laid_again}

-- the records that are not counted, as they are cut off
pub new_records : (m from : ℕ) (recs : List Rec) → from ≡ min m (length recs) → take (length recs - from)
    (drop from recs) ≡ drop m recs
new_records m from recs is = grind (arith, take_all, length-drop, drop_min)

-- nothing was written
pub torn_kept : (o : Trace) (at n : ℕ) → During o o (FromOld o (IsTorn at n))
torn_kept o at n = started o (FromOld o (IsTorn at n)) (record { each = λ c may. (c, may, torn_self at n c) })

-- a write that may be torn
pub torn_moments : {E : Type 0} (r : Result (Unit {0}) E) (o new : Trace) (at : ℕ) (bytes : List ℕ) → IsNoted
    (Wrote at bytes) (WroteInPart at bytes) r o new → During o new (FromOld o (IsTorn at (length bytes)))
torn_moments r o new at bytes noted =
    goes_on (Wrote at bytes) (WroteInPart at bytes) r o o new (FromOld o (IsTorn at (length bytes)))
    (torn_kept o at (length bytes)) noted (record { each = λ c may. wrote_now r o new at bytes c noted may })

-- ---- the bytes

-- a place next to a gate
beside_gate : (gate i : ℕ) → i ≢ gate → IsOutside gate 1 i
beside_gate gate i other = grind arith

-- a write after the log, and then the gate closed
logged_of : (at n gate : ℕ) (a m b : List ℕ) → at ≤ length a → gate < at → IsTorn at n a m
    → IsClosing gate 1 m b → IsLogged at gate a b
logged_of at n gate a m b long before torn closing = grind (arith, beside_gate)

-- the gates lie after both slots
pub gate_behind : (j : Slot) → 384 ≤ summary_gate j
gate_behind x1 = grind arith

module _ (p : Seat) (a b : List ℕ) (laid : IsLaid p a) (only : OnlySpare p.counts (log_end p) a b) where
  -- the lane is as it was
  pub same_slots : HasSameSlots p.lane.slots p.lane.slots a b
  same_slots = grind (arith, same_bytes, behind_kept)

  -- it keeps the layout, and holds the same points
  pub lane_kept : KeepsLane p.lane.slots p.taken a b
  lane_kept = grind (arith, same_lane, same_slots, same_points)

  -- no gate after it was opened
  pub room_kept : HasRoom p.lane.slots p.lane.used b
  room_kept = grind (arith, behind_kept)

  -- it is in use as it was
  pub in_use_kept : p.lane.used ≤ p.lane.slots → IsInUse p.lane.slots p.taken p.lane.used p.lane.next a
      → IsInUse p.lane.slots p.taken p.lane.used p.lane.next b
  in_use_kept within lane = record {
    lane = lane_kept.lane lane.lane;
    opened = λ k below. same_slots.forth k (omega (arith, below, within)) (lane.opened k below);
    beyond = grind (arith, same_beyond, same_slots);
    number = lane.number ∙ ap (λ ps. p.taken + length ps) (sym (lane_kept.points lane.lane));
  }

module _ (p : Seat) (a b : List ℕ) (laid : IsLaid p a) (logged : IsLogged (log_end p)
    (summary_gate (spare_slot p.counts)) a b) where
  -- only the gate of the slot that does not count has changed
  logged_only : OnlySpare p.counts (log_end p) a b
  logged_only = grind arith

  -- what is stored was kept
  logged_keeps : KeepsStored p a b
  logged_keeps = only_spare p a b laid logged_only (grind (arith, slot_same))
    where
      slot_same : slot_bytes b (spare_slot p.counts) ≡ slot_bytes a (spare_slot p.counts)
      slot_same =
          let j = spare_slot p.counts in
          let within = slot_within j in
          let behind = gate_behind j in
          same_piece (summary_place j) 128 a b (omega (arith, within, laid.long))
          (omega (arith, within, laid.long, logged.no_shorter))
          (λ i low below. grind arith)

  -- so it recovers what it recovered
  logged_recovers : (def : TagDef) (s : State) → Recovers def a s → Recovers def b s
  logged_recovers def s recovers = recovers_same def p a b s laid logged_keeps
      (lane_kept p a b laid logged_only) recovers

  -- and the place is valid
  logged_laid : p.lane.used ≤ p.lane.slots → IsLaid p b
  logged_laid within = laid_moved p p.stale p.lane.used p.lane.next a b laid logged_keeps
      (room_kept p a b laid logged_only)
      (λ fresh. in_use_kept p a b laid logged_only within (laid.in_use fresh)) laid.number

-- ---- the calls

module _ (p : Seat) (n gate : ℕ) (is_gate : gate ≡ summary_gate (spare_slot p.counts)) (o mid : Trace)
    (laid : LaidOn p o) (torn : During o mid (FromOld o (IsTorn (log_end p) n))) where
  -- the gate lies before the lane
  low_gate : gate < 400
  low_gate = omega (arith, is_gate, gate_within (spare_slot p.counts))

  -- each image that was there is one of the place
  each_laid : Now o (IsLaid p)
  each_laid = now_shown o (IsLaid p) (settled_on p o laid) (laid_shown p o laid)

  -- after the write
  logged_first : During o mid (FromOld o (IsLogged (log_end p) gate))
  logged_first = weaker o mid (FromOld o (IsTorn (log_end p) n)) (FromOld o (IsLogged (log_end p) gate))
      (λ c from. (
        from.0,
        from.1,
        logged_of (log_end p) n gate from.0 c c (each_laid.each from.0 from.1).long (omega (arith, low_gate))
            from.2 (closing_self gate 1 c),
      )) torn

  -- each image recovers what it recovered
  recovers_through : (new : Trace) (def : TagDef) (s : State) → AllRecover def o s
      → During o new (FromOld o (IsLogged (log_end p) gate)) → During o new (λ c. Recovers def c s)
  recovers_through new def s all logged =
      during_from o new (IsLogged (log_end p) gate) (λ c. IsLaid p c × Recovers def c s)
      (λ c. Recovers def c s) (settled_on p o laid)
      (shown_both o (IsLaid p) (λ c. Recovers def c s) (laid_shown p o laid)
      (shown_now o (λ c. Recovers def c s) all))
      (λ a b q step. logged_recovers p a b q.0 (subst (λ g. IsLogged (log_end p) g a b) is_gate step) def s
      q.1) logged

  -- so each image recovers what it recovered
  pub put_moments : (def : TagDef) (s : State) → AllRecover def o s → During o mid (λ c. Recovers def c s)
  put_moments def s all = recovers_through mid def s all logged_first

  -- the gate reads the same in each image
  pub gates_torn : Now mid (HasGatesOf (seen mid) gate 1)
  gates_torn = record { each = λ c may. same_gate c (now.each c may) (now.each (seen mid) (present mid)) }
    where
      now : Now mid (FromOld o (IsTorn (log_end p) n))
      now = during_now o mid (FromOld o (IsTorn (log_end p) n)) torn

      same_gate : (c : List ℕ) → FromOld o (IsTorn (log_end p) n) c → FromOld o (IsTorn (log_end p) n) (seen mid)
          → HasGatesOf (seen mid) gate 1 c
      same_gate c from here =
          let a = each_laid.each from.0 from.1 in
          let b = each_laid.each here.0 here.1 in
          let one : from.0 ≡ here.0 = grind (arith, settled_on) in
          record {
            there = omega (arith, low_gate, a.long, from.2.no_shorter);
            same = grind (arith, low_gate);
          }

  module _ (new : Trace) (closing : During mid new (FromOld mid (IsClosing gate 1))) where
    -- after the gate was closed too
    logged_moments : During o new (FromOld o (IsLogged (log_end p) gate))
    logged_moments = in_turn o mid new (FromOld o (IsLogged (log_end p) gate)) logged_first
        (weaker mid new (FromOld mid (IsClosing gate 1)) (FromOld o (IsLogged (log_end p) gate)) (λ c from.
        let first = (during_now o mid (FromOld o (IsTorn (log_end p) n)) torn).each from.0 from.1 in (
          first.0,
          first.1,
          logged_of (log_end p) n gate first.0 from.0 c (each_laid.each first.0 first.1).long
              (omega (arith, low_gate)) first.2 from.2,
        )) closing)

    -- each image recovers what it recovered
    pub log_moments : (def : TagDef) (s : State) → AllRecover def o s → During o new (λ c. Recovers def c s)
    log_moments def s all = recovers_through new def s all logged_moments

    -- once all was done, the place is valid
    pub log_laid : p.lane.used ≤ p.lane.slots → IsSettled new → LaidOn p new
    log_laid within settled =
        laid_again p new settled (shown_from o new (IsLogged (log_end p) gate) (IsLaid p) (λ c. Unit {0})
        (IsLaid p) (settled_on p o laid) (laid_shown p o laid) (any_shown new)
        (λ a b laid_a step none. logged_laid p a b laid_a (grind arith) within) logged_moments)
      where
        any_shown : (x : Trace) → Shows x (λ c. Unit {0})
        any_shown u = tt

-- the bytes that were written stay where a gate before them is closed
holds_closed : (at gate : ℕ) (bytes old m b : List ℕ) → gate < at → at ≤ length old → m ≡ written old at bytes
    → IsClosing gate 1 m b → Holds at bytes b
holds_closed at gate bytes old m b before long is closing =
    let size = ap length is ∙ length-written old at bytes long in
    same_piece at (length bytes) m b (omega (arith, size)) (omega (arith, size, closing.same_length))
    (λ i low below. closing.same i (inl (inr (omega (arith, before, low)))))
    ∙ ap (λ l. take (length bytes) (drop at l)) is ∙ holds_written old at bytes long

-- and then all is there for a summary
pub ready_on : (p : Seat) (gate : ℕ) (recs : List Rec) (P Q : List ℕ → Type 0) (o mid new : Trace) → gate
    ≡ summary_gate (spare_slot p.counts) → LaidOn p o → During o mid P → During mid new Q → Sees mid
    (written (seen o) (log_end p) (recs_image (drop p.records recs))) → IsClosing gate 1 (seen mid) (seen new)
    → Now new (AreShut gate 1) → ReadyOn p (summary_gate (spare_slot p.counts)) recs new
unfolding LaidOn
ready_on p gate recs P Q t u v is_gate laid first second sees closing shut = record {
  shut = subst (λ g. IsShut g (seen v)) is_gate ((shut.each (seen v) (present v)) gate
      (omega arith) (omega arith));
  logged = holds_closed (log_end p) gate (recs_image (drop p.records recs)) (seen t) (seen u) (seen v)
      (omega (arith, is_gate, gate_within (spare_slot p.counts))) laid.laid.long sees closing;
}

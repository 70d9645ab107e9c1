-- How many calls close a lane's gates, and how many make a checkpoint.
use Rattle.std.proofs.Common.{◌≡◌, ◌≢◌, ◌==◌, inl, inr, ℕ, zero, suc, ◌+◌, ◌-◌, ◌<◌, ◌≤◌, true, false, cond, List, [], ◌∷◌, length, get_or, refl, ◌∙◌, ap, subst, arith, add-zero}
use Rattle.std.proofs.lemmas.Bool.{cases_Bool, cases_eq, eq-eqb, ne_eqb, cond-true, cond-false}
use Rattle.disk_model.specs.{Traces.Trace, Traces.seen, Traces.written, Calls.Sees, Calls.Shows, Images.IsOutside, Moments.ComesAfter, Gates.open_byte, Gates.open_gate, Gates.open_gates, Gates.IsClosing, Gates.IsOpen}
use Rattle.disk_model.proofs.{Bytes.torn_written, Moments.after_both}
use Rattle.event_queue.specs.{gate_of}
use Rattle.device_layout.specs.{summary_gate, summary_place}
use Rattle.crash_recovery.specs.{Seat, IsSeat, SeatedOn, log_end, KeepsPlaces, LaidOn, checkpoint_calls, lane_calls, log_calls, record_calls, restarted, spare_slot, stale_calls}
use Rattle.crash_recovery.proofs.Places.{gate_within, reaches_on, seat_shown, slot_within}

-- ---- open gates

-- one more is closed, or open
gate_shut : (gate : ℕ) (c : List ℕ) → get_or c gate 0 ≢ open_byte → open_gate gate c ≡ 0
gate_shut gate c shut = cond-false _ 1 0 (ne_eqb (get_or c gate 0) open_byte shut)

gate_open : (gate : ℕ) (c : List ℕ) → IsOpen gate c → open_gate gate c ≡ 1
gate_open gate c opened = cond-true _ 1 0 (eq-eqb (get_or c gate 0) open_byte opened)

-- where they read the same, as many are open
pub same_open : (at n : ℕ) (a b : List ℕ) → ((i : ℕ) → at ≤ i → i < at + n → get_or b i 0 ≡ get_or a i 0)
    → open_gates at n b ≡ open_gates at n a
same_open at zero a b same = refl
same_open at (suc n) a b same =
    let before = same_open at n a b (λ i low below. same i low (omega (arith, below))) in
    let here : open_gate (at + n) b ≡ open_gate (at + n) a =
    ap (λ x. cond (x == open_byte) 1 0) (same (at + n) (omega arith) (omega arith)) in
    omega (arith, before, here)

-- if all are open
all_open : (at n : ℕ) (c : List ℕ) → ((k : ℕ) → k < n → IsOpen (at + k) c) → open_gates at n c ≡ n
all_open at zero c opened = refl
all_open at (suc n) c opened =
    omega (arith, all_open at n c (λ k below. opened k (omega (arith, below))), gate_open (at + n) c (opened n (omega arith)))

-- if none after the first n is
none_beyond : (at n m : ℕ) (c : List ℕ) → ((k : ℕ) → n ≤ k → k < n + m → get_or c (at + k) 0 ≢ open_byte)
    → open_gates at (n + m) c ≡ open_gates at n c
none_beyond at n zero c shut = ap (λ k. open_gates at k c) (add-zero n)
none_beyond at n (suc m) c shut =
    let more : n + suc m ≡ suc (n + m) = omega arith in
    let before = none_beyond at n m c (λ k low below. shut k low (omega (arith, below))) in
    let here = gate_shut (at + (n + m)) c (shut (n + m) (omega arith) (omega arith)) in
    ap (λ k. open_gates at k c) more ∙ omega (arith, before, here)

-- if one is
pub some_open : (at n k : ℕ) (c : List ℕ) → k < n → IsOpen (at + k) c → 0 < open_gates at n c
some_open at zero k c below opened = absurd (omega (arith, below))
some_open at (suc n) k c below opened = elim (cases_eq k n) [
  | inl is ↦ omega (arith, gate_open (at + n) c (subst (λ j. IsOpen (at + j) c) is opened))
  | inr other ↦ omega (arith, some_open at n k c (grind (arith, below, other)) opened)
]

-- ---- what some calls leave the same

-- some, and then some more
pub places_then : (from to : ℕ) (a b c : Trace) → KeepsPlaces from to a b → KeepsPlaces from to b c → KeepsPlaces from to a c
places_then from to a b c first second = record {
  later = after_both a b c first.later second.later;
  same = λ i low below. second.same i low below ∙ first.same i low below;
}

-- bytes were written elsewhere
pub places_written : (from to at : ℕ) (bytes : List ℕ) (o new : Trace) → ComesAfter o new → Shows o (λ c. to ≤ length c)
    → Sees new (written (seen o) at bytes) → ((i : ℕ) → from ≤ i → i < to → IsOutside at (length bytes) i) → KeepsPlaces from to o new
places_written from to at bytes t u later long sees apart = record {
  later = later;
  same = λ i low below. ap (λ l. get_or l i 0) sees
      ∙ (torn_written (seen t) at bytes).outside i (omega (arith, below, long)) (apart i low below);
}

-- gates were closed elsewhere
pub places_closed : (from to at n : ℕ) (o new : Trace) → ComesAfter o new → IsClosing at n (seen o) (seen new)
    → ((i : ℕ) → from ≤ i → i < to → IsOutside at n i) → KeepsPlaces from to o new
places_closed from to at n o new later closing apart = record { later = later; same = λ i low below. closing.same i (inl (apart i low below)) }

-- bytes were written elsewhere, and a gate for them was opened
pub places_guarded : (from to at gate : ℕ) (bytes : List ℕ) (o new : Trace) → ComesAfter o new → Shows o (λ c. to ≤ length c)
    → Sees new (written (written (seen o) at bytes) gate (open_byte ∷ []))
    → ((i : ℕ) → from ≤ i → i < to → IsOutside at (length bytes) i × IsOutside gate 1 i) → KeepsPlaces from to o new
places_guarded from to at gate bytes t u later long sees apart = record {
  later = later;
  same = λ i low below.
      let first = torn_written (seen t) at bytes in
      let out = apart i low below in
      ap (λ l. get_or l i 0) sees
      ∙ (torn_written (written (seen t) at bytes) gate (open_byte ∷ [])).outside i (omega (arith, below, long, first.no_shorter)) out.1
      ∙ first.outside i (omega (arith, below, long)) out.0;
}

-- ---- a place, and the calls that close its lane

-- the open gates are those of used slots
used_open : (p : Seat) (c : List ℕ) → p.lane.used ≤ p.lane.slots → IsSeat p c
    → open_gates (gate_of 0) p.lane.slots c ≡ open_gates (gate_of 0) p.lane.used c
used_open p c within seat =
    let whole : p.lane.slots ≡ p.lane.used + (p.lane.slots - p.lane.used) = omega arith in
    ap (λ n. open_gates (gate_of 0) n c) whole
    ∙ none_beyond (gate_of 0) p.lane.used (p.lane.slots - p.lane.used) c (λ k low below. seat.laid.room.shut k low (omega (arith, below)))

-- no calls, or one for each and one more
lane_none : (slots : ℕ) (c : List ℕ) → open_gates (gate_of 0) slots c ≡ 0 → lane_calls slots c ≡ 0
lane_none slots c none = cond-true _ 0 (open_gates (gate_of 0) slots c + 1) (eq-eqb (open_gates (gate_of 0) slots c) 0 none)

lane_some : (slots : ℕ) (c : List ℕ) → 0 < open_gates (gate_of 0) slots c → lane_calls slots c ≡ open_gates (gate_of 0) slots c + 1
lane_some slots c some = grind (arith, cond-false, ne_eqb)

stale_is : (p : Seat) (c : List ℕ) → p.stale ≡ true → stale_calls p c ≡ open_gates (gate_of 0) p.lane.used c + 1
stale_is p c is = ap (λ b. cond b (open_gates (gate_of 0) p.lane.used c + 1) 0) is

fresh_is : (p : Seat) (c : List ℕ) → p.stale ≡ false → stale_calls p c ≡ 0
fresh_is p c is = ap (λ b. cond b (open_gates (gate_of 0) p.lane.used c + 1) 0) is

-- the place before a checkpoint, once an overtaken lane is closed, and once the summary is written
pub record IsStepped (p q r : Seat) : Type 0 where
  pub within : p.lane.used ≤ p.lane.slots
  pub kept : p.stale ≡ false → q ≡ p
  pub restarted : p.stale ≡ true → q ≡ restarted p
  pub used : r.lane.used ≡ q.lane.used
  pub fresh : r.stale ≡ false → r.lane.used ≡ 0
  pub overtaken : r.stale ≡ true → 0 < r.lane.used

module _ (p q r : Seat) (step : IsStepped p q r) where
  -- the summary that counts is the same
  counts_same : q.counts ≡ p.counts
  counts_same = elim (cases_Bool p.stale) [ inl is ↦ ap (λ x. x.counts) (step.restarted is) | inr is ↦ ap (λ x. x.counts) (step.kept is) ]

  records_same : q.records ≡ p.records
  records_same = elim (cases_Bool p.stale) [ inl is ↦ ap (λ x. x.records) (step.restarted is) | inr is ↦ ap (λ x. x.records) (step.kept is) ]

  module _ (a d : List ℕ) (seat : IsSeat p a) where
    -- an overtaken lane is closed first
    closed_first : p.stale ≡ true → stale_calls p a + stale_calls r d ≡ lane_calls p.lane.slots a
    closed_first is = grind (arith, fresh_is, stale_is, used_open, lane_some)

    -- any other at the end
    closed_last : p.stale ≡ false → ((i : ℕ) → gate_of 0 ≤ i → i < gate_of p.lane.slots → get_or d i 0 ≡ get_or a i 0)
        → stale_calls p a + stale_calls r d ≡ lane_calls p.lane.slots a
    closed_last is same = grind (arith, all_open, used_open, same_open, fresh_is, stale_is, lane_some, lane_none)

  module _ (records first second third fourth last : ℕ) (o1 o2 o3 o4 : Trace) (seated : SeatedOn p o1)
      (idle : p.stale ≡ false → o2 ≡ o1) (closed : Shows o1 (λ c. second ≡ first + stale_calls p c)) (front : KeepsPlaces 0 (gate_of 0) o1 o2)
      (logged : Shows o2 (λ c. third ≡ second + log_calls q records c)) (log_gates : KeepsPlaces (gate_of 0) (gate_of q.lane.slots) o2 o3)
      (put : fourth ≡ third + 4) (put_gates : KeepsPlaces (gate_of 0) (gate_of q.lane.slots) o3 o4)
      (restarted_last : Shows o4 (λ c. last ≡ fourth + stale_calls r c)) where
    gates_same : p.stale ≡ false → (i : ℕ) → gate_of 0 ≤ i → i < gate_of p.lane.slots → get_or (seen o4) i 0 ≡ get_or (seen o1) i 0
    gates_same is i low below = grind arith

    -- all calls of a checkpoint
    pub checkpoint_counted : Shows o1 (λ c. last ≡ first + checkpoint_calls records c)
    checkpoint_counted = grind (
      arith,
      seat_shown,
      gates_same,
      after_both,
      counts_same,
      records_same,
      gate_within,
      closed_first,
      closed_last,
    )

-- ---- the steps of a checkpoint

-- the records are written, and the gate of the next summary is closed
pub log_counted : (p : Seat) (records first second last gate : ℕ) (o mid : Trace) → gate ≡ summary_gate (spare_slot p.counts)
    → KeepsPlaces 0 (gate_of 0) o mid → second ≡ first + record_calls p.records records
    → Shows mid (λ c. last ≡ second + (open_gates gate 1 c + 1)) → Shows o (λ c. last ≡ first + log_calls p records c)
log_counted p records first second last gate t u is front put closed = grind (arith, add-zero, gate_within)

-- these places do not change
pub log_front : (p : Seat) (bytes : List ℕ) (o mid : Trace) → LaidOn p o → ComesAfter o mid
    → Sees mid (written (seen o) (log_end p) bytes) → KeepsPlaces 0 (gate_of 0) o mid
log_front p bytes o mid laid later sees =
    places_written 0 (gate_of 0) (log_end p) bytes o mid later (reaches_on p o (gate_of 0) laid (omega arith)) sees
    (λ i low below. inl (omega (arith, below)))

pub log_gates : (p : Seat) (bytes : List ℕ) (gate : ℕ) (o mid new : Trace) → gate ≡ summary_gate (spare_slot p.counts) → LaidOn p o
    → ComesAfter o mid → Sees mid (written (seen o) (log_end p) bytes) → ComesAfter mid new → IsClosing gate 1 (seen mid) (seen new)
    → KeepsPlaces (gate_of 0) (gate_of p.lane.slots) o new
log_gates p bytes gate o mid new is laid later sees then closing =
    places_then (gate_of 0) (gate_of p.lane.slots) o mid new
    (places_written (gate_of 0) (gate_of p.lane.slots) (log_end p) bytes o mid later
    (reaches_on p o (gate_of p.lane.slots) laid (omega arith)) sees (λ i low below. inl (omega (arith, below))))
    (places_closed (gate_of 0) (gate_of p.lane.slots) gate 1 mid new then closing
    (λ i low below. inr (omega (arith, is, gate_within (spare_slot p.counts), low))))

-- the summary is written before the lane
pub put_gates : (p : Seat) (at gate : ℕ) (bytes : List ℕ) (o new : Trace) → at ≡ summary_place (spare_slot p.counts)
    → gate ≡ summary_gate (spare_slot p.counts) → length bytes ≡ 128 → LaidOn p o → ComesAfter o new
    → Sees new (written (written (seen o) at bytes) gate (open_byte ∷ [])) → KeepsPlaces (gate_of 0) (gate_of p.lane.slots) o new
put_gates p at gate bytes o new at_is gate_is size laid later sees =
    places_guarded (gate_of 0) (gate_of p.lane.slots) at gate bytes o new later (reaches_on p o (gate_of p.lane.slots) laid (omega arith)) sees
    (λ i low below. (
      inr (omega (arith, at_is, size, slot_within (spare_slot p.counts), low)),
      inr (omega (arith, gate_is, gate_within (spare_slot p.counts), low)),
    ))

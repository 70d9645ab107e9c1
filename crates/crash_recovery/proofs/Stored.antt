-- The records and the summary that are stored, if only bytes besides them change.
use Rattle.std.proofs.Common.{◌≡◌, inl, inr, ℕ, ◌*◌, ◌≤◌, Bool, List, length, get_or, take, drop, map, Option, None, Some, sym, ◌∙◌, ap, subst, arith}
use Rattle.std.specs.Int.{w32, from_be_bytes}
use Rattle.trend_num.specs.declared.{archive.Rec.Rec, archive.Summary.Summary, tag_def.TagDef.TagDef}
use Rattle.trend_model.specs.{History.Raw, Parts.ArePartsOk, State.State, State.replay}
use Rattle.event_queue.specs.{Slots.lane_end, Lanes.lane_points, Lanes.IsLane}
use Rattle.crash_recovery.specs.{Seat, taken_of, journal_records_of, IsLaid}
use Rattle.device_layout.specs.{header_of, log_place, slot_bytes, counting, HasSummary, recovered_tuning, state_of, start_of, AllFit, IsOfTag, IsStored, IsReplayed, Recovers, declared.slot.Slot.Slot, Headers.tuning_in, Headers.slots_in}
use Rattle.disk_model.specs.{IsNew}
use Rattle.device_layout.proofs.SlotNumbers.{taken_spelled, records_spelled}

-- all bytes on which what is stored depends are as they were
pub record KeepsStored (p : Seat) (a b : List ℕ) : Type 0 where
  pub no_shorter : length a ≤ length b
  pub first : get_or b 0 0 ≡ get_or a 0 0
  pub header : header_of b ≡ header_of a
  pub counts : counting b ≡ counting a
  pub summary : (i : Slot) → p.counts ≡ Some i → slot_bytes b i ≡ slot_bytes a i
  pub log : take (17 * p.records) (drop (lane_end p.lane.slots) b) ≡ take (17 * p.records)
      (drop (lane_end p.lane.slots) a)

-- the summary that counts begins with how many events and how many records it has
pub taken_stored : (c : List ℕ) (o : Option Slot) (s : Summary) → HasSummary c o s → taken_of c o ≡ s.taken
taken_stored c x2 s is = grind (arith, taken_spelled)

pub records_stored : (c : List ℕ) (o : Option Slot) (s : Summary) → HasSummary c o s
    → journal_records_of c o ≡ s.records
records_stored c None s is = sym (ap (λ (x : Summary). x.records) is)
records_stored c (Some i) s has = ap (λ l. from_be_bytes w32 (take 4 (drop 8 l))) has.1
    ∙ records_spelled s has.0

-- the same bytes are the same summary
summary_same : (a b : List ℕ) (o : Option Slot) (s : Summary)
    → ((i : Slot) → o ≡ Some i → slot_bytes b i ≡ slot_bytes a i) → HasSummary a o s → HasSummary b o s
summary_same a b x3 s same is = grind arith

-- and the same numbers
pub taken_kept : (a b : List ℕ) (o : Option Slot)
    → ((i : Slot) → o ≡ Some i → slot_bytes b i ≡ slot_bytes a i) → taken_of b o ≡ taken_of a o
taken_kept a b x3 same = grind arith

pub records_kept : (a b : List ℕ) (o : Option Slot)
    → ((i : Slot) → o ≡ Some i → slot_bytes b i ≡ slot_bytes a i)
    → journal_records_of b o ≡ journal_records_of a o
records_kept a b x3 same = grind arith

module _ (def : TagDef) (p : Seat) (a : List ℕ) (laid : IsLaid p a) where
  -- of the summary that is stored, the place knows the numbers
  pub taken_known : (rs : List Rec) (s : Summary) → IsStored def a rs s → p.taken ≡ s.taken
  taken_known rs s stored = grind (arith, taken_stored)

  pub records_known : (rs : List Rec) (s : Summary) → IsStored def a rs s → p.records ≡ s.records
  records_known rs s stored = grind (arith, records_stored)

  -- it is no new device
  pub not_new : IsNew a → ⊥
  not_new x1 = grind arith

  -- where the lane ends
  place_known : log_place a ≡ lane_end p.lane.slots
  place_known = ap lane_end (sym laid.slots)

  module _ (b : List ℕ) (keeps : KeepsStored p a b) where
    -- the lane ends where it did
    place_same : log_place b ≡ log_place a
    place_same = ap (λ h. lane_end (slots_in h)) keeps.header

    -- the device is the same tag's
    pub tag_kept : IsOfTag def a → IsOfTag def b
    tag_kept tag = grind arith

    -- the layout is whole
    pub long_kept : log_place a ≤ length a → log_place b ≤ length b
    long_kept long = subst (λ n. n ≤ length b) (sym place_same) (omega (arith, long, keeps.no_shorter))

    -- all that was stored is stored
    pub stored_kept : (rs : List Rec) (s : Summary) → IsStored def a rs s → IsStored def b rs s
    stored_kept rs s stored = record {
      tag = tag_kept stored.tag;
      long = long_kept stored.long;
      summary = grind (arith, summary_same);
      records = grind (arith, bytes_same);
      parts = subst (λ h. ArePartsOk (recovered_tuning (tuning_in h) s.tuning) def.step rs s) (sym keeps.header)
          stored.parts;
    }
      where
        count : s.records ≡ p.records
        count = sym (records_known rs s stored)

        bytes_same : take (17 * s.records) (drop (log_place b) b) ≡ take (17 * s.records)
            (drop (log_place a) a)
        bytes_same = grind (arith, count, place_same, place_known)

    -- the lane continues from the same state
    start_kept : (rs : List Rec) (s : Summary) → start_of b rs s ≡ start_of a rs s
    start_kept rs s = ap (λ h. state_of rs s (recovered_tuning (tuning_in h) s.tuning)) keeps.header

    -- what a lane of this many slots replays
    pub replays : (step : Bool) (c : List ℕ) (start : State) (taken : ℕ) (s : State)
        → header_of c ≡ header_of a → IsLane p.lane.slots c taken p.lane.slots
        → AllFit step start (map Raw (lane_points p.lane.slots c taken))
        → s ≡ replay step start (map Raw (lane_points p.lane.slots c taken)) → IsReplayed step c start taken s
    replays step c start taken s same lane fits state = grind arith

    -- what it recovers, where the lane's part is shown
    pub recovers_kept : (s r : State)
        → ((start : State) → IsReplayed def.step a start p.taken s → IsReplayed def.step b start p.taken r)
        → Recovers def a s → Recovers def b r
    recovers_kept s r moves (inl new) = absurd (not_new new.0)
    recovers_kept s r moves (inr is) =
        let taken = taken_known is.0 is.1 is.2 in
        let before : IsReplayed def.step a (start_of a is.0 is.1) p.taken s =
        subst (λ n. IsReplayed def.step a (start_of a is.0 is.1) n s) (sym taken) is.3 in
        let now : IsReplayed def.step b (start_of b is.0 is.1) p.taken r =
        subst (λ x. IsReplayed def.step b x p.taken r) (sym (start_kept is.0 is.1))
        (moves (start_of a is.0 is.1) before) in
        inr (
          is.0,
          is.1,
          stored_kept is.0 is.1 is.2,
          subst (λ n. IsReplayed def.step b (start_of b is.0 is.1) n r) taken now,
        )

-- a lane that keeps the layout and holds the same points does so after a change
pub record KeepsLane (slots taken : ℕ) (a b : List ℕ) : Type 0 where
  pub lane : IsLane slots a taken slots → IsLane slots b taken slots
  pub points : IsLane slots a taken slots → lane_points slots b taken ≡ lane_points slots a taken

-- what a lane of so many slots replays
pub record IsLaneReplayed (slots : ℕ) (step : Bool) (c : List ℕ) (start : State) (taken : ℕ)
    (s : State) : Type 0 where
  pub lane : IsLane slots c taken slots
  pub fits : AllFit step start (map Raw (lane_points slots c taken))
  pub state : s ≡ replay step start (map Raw (lane_points slots c taken))

-- that of a place is that of its image
pub lane_replayed : (p : Seat) (a : List ℕ) (step : Bool) (start : State) (s : State) → IsLaid p a
    → IsReplayed step a start p.taken s → IsLaneReplayed p.lane.slots step a start p.taken s
lane_replayed p a step start s laid was = grind arith

-- then it recovers what it recovered
pub recovers_same : (def : TagDef) (p : Seat) (a b : List ℕ) (s : State) → IsLaid p a → KeepsStored p a b
    → KeepsLane p.lane.slots p.taken a b → Recovers def a s → Recovers def b s
recovers_same def p a b s laid keeps same recovers = recovers_kept def p a laid b keeps s s moves recovers
  where
    moves : (start : State) → IsReplayed def.step a start p.taken s → IsReplayed def.step b start p.taken s
    moves start replayed = grind (arith, lane_replayed, replays)

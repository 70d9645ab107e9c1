-- A lane that keeps the layout is in use, or overtaken.
use Rattle.std.proofs.Common.{◌≡◌, ◌≢◌, ◌⊎◌, inl, inr, ⊎_elim, ℕ, zero, suc, ◌+◌, ◌-◌, ◌<◌, ◌≤◌, true, false, List, length, get_or, refl, arith}
use Rattle.std.proofs.lemmas.Bool.{cases_eq}
use Rattle.trend_num.specs.{Point}
use Rattle.disk_model.specs.{open_byte, IsOpen}
use Rattle.event_queue.specs.{declared.reader.Scanned.Scanned, gate_of, lane_end, batch_at, IsStale, lane_points, IsNextBehind, IsLane, IsFilled, IsOvertaken, IsWithin, IsRead}
use Rattle.event_queue.proofs.Rules.{next_beyond, told_stale, last_next}

module _ (slots taken : ℕ) (c : List ℕ) where
  -- each open one of the first n slots is stale
  record AreStale (n : ℕ) : Type 0 where
    stale : (k : ℕ) → k < n → IsOpen (gate_of k) c → IsStale taken (batch_at slots c k)

  -- of the first n slots the first are open and not stale, and the others closed
  record AreUsed (n used : ℕ) : Type 0 where
    within : used ≤ n
    opened : (k : ℕ) → k < used → IsOpen (gate_of k) c
    beyond : (k : ℕ) → k < used → taken < (batch_at slots c k).first + (batch_at slots c k).count
    shut : (k : ℕ) → used ≤ k → k < n → get_or c (gate_of k) 0 ≢ open_byte

  -- a closed slot more
  stale_shut : (n : ℕ) → get_or c (gate_of n) 0 ≢ open_byte → AreStale n → AreStale (suc n)
  stale_shut n shut are = grind arith

  used_shut : (n used : ℕ) → get_or c (gate_of n) 0 ≢ open_byte → AreUsed n used → AreUsed (suc n) used
  used_shut n used shut are = grind arith

  -- one or the other
  stale_or_used : IsLane slots c taken slots → (n : ℕ) → n ≤ slots → AreStale n ⊎ ((used : ℕ) × AreUsed n used)
  stale_or_used lane zero within = grind arith
  stale_or_used lane (suc n) within = ⊎_elim
      (λ opened. let sound = lane.sound n (omega (arith, within)) opened in ⊎_elim (λ behind. grind arith)
      (λ next. inr (
        suc n,
        record {
          within = omega arith;
          opened = λ k below. grind (arith, next.opened);
          beyond = λ k below. grind (arith, next.beyond, next_beyond slots taken c n next sound.counted);
          shut = λ k low below. absurd (omega (arith, low, below));
        },
      )) sound.follows)
      (λ shut. ⊎_elim (λ are. inl (stale_shut n shut are)) (λ are. inr (are.0, used_shut n are.0 shut are.1))
      (stale_or_used lane n (omega (arith, within))))
      (cases_eq (get_or c (gate_of n) 0) open_byte)

  pub filled_or_overtaken : lane_end slots ≤ length c → IsLane slots c taken slots
      → IsOvertaken slots taken c ⊎ ((used : ℕ) × (next : ℕ) × (points : List Point)
      × IsFilled slots taken used next c points)
  filled_or_overtaken long lane = ⊎_elim (λ are. inl (record { lane = lane; stale = are.stale }))
      (λ are. inr (
        are.0,
        taken + length (lane_points slots c taken),
        lane_points slots c taken,
        record {
          room = record { long = long; shut = are.1.shut };
          lane = lane;
          opened = are.1.opened;
          beyond = are.1.beyond;
          points = refl;
          number = refl;
        },
      )) (stale_or_used lane slots (omega arith))

  module _ (s : Scanned) (read : IsRead slots taken c slots s) (within : IsWithin slots taken slots s) where
    -- what a scan returns
    pub scanned_overtaken : s.stale ≡ true → IsOvertaken slots taken c
    scanned_overtaken told = grind (arith, told_stale)

    -- the slots before the last used one number on up to it
    last_one : s.stale ≡ false → (k : ℕ) → k < s.lane.used → IsNextBehind slots c taken (s.lane.used - 1)
    last_one untold k below = last_next slots taken c slots s read within untold (omega (arith, below))

    pub scanned_filled : lane_end slots ≤ length c → s.stale ≡ false
        → IsFilled slots taken s.lane.used s.lane.next c s.points.items
    scanned_filled long untold = grind (arith, last_one, next_beyond)

-- The places of the values of a lane.
use Rattle.std.proofs.Common.{◌≡◌, ℕ, ◌+◌, ◌-◌, ◌*◌, ◌<◌, ◌≤◌, min, List, length, take, drop, get_or, Some, sym, ◌∙◌, ap, subst, arith, length-append}
use Rattle.std.specs.Int.{w16, from_be_bytes}
use Rattle.disk_model.specs.{Traces.Trace, Traces.seen, Calls.Reads, Calls.Shows}
use Rattle.archive_file.proofs.Logs.{part_of}
use Rattle.event_queue.specs.{place_of, slot_at, batch_at, count_in, points_beyond, points_before}
use Rattle.event_queue.proofs.{Batches.length-points_in, Steps.points_open, Steps.points_more, Steps.beyond_all, Filled.lane_points_used}
use Rattle.device_layout.specs.{IsValuePlace, StandsThere}
use Rattle.crash_recovery.specs.{HoldsValue}
use Rattle.device_layout.proofs.Reading.{byte_here}

-- the count of a slot, read of its place
count_here : (slots j at : ℕ) (bytes c : List ℕ) → at ≡ place_of slots j + 8 → length bytes ≡ 2
    → bytes ≡ take (length bytes) (drop at c) → count_in (slot_at slots c j) ≡ from_be_bytes w16 bytes
count_here slots j at bytes c is size here = ap (from_be_bytes w16)
    (part_of c (place_of slots j) 1034 8 2 (omega arith) ∙ ap (λ k. take 2 (drop k c)) (sym is)
    ∙ ap (λ n. take n (drop at c)) (sym size) ∙ sym here)

pub count_shown : (o : Trace) (slots j at : ℕ) (bytes : List ℕ) (m n : ℕ) → at ≡ place_of slots j + 8
    → length bytes ≡ 2 → Reads o at bytes → m ≡ from_be_bytes w16 bytes → n ≡ min m 64
    → Shows o (λ c. n ≡ min 64 (count_in (slot_at slots c j)))
count_shown t slots j at bytes m n is size read m_is n_is = grind (arith, count_here)

-- so many of the values are in the first j slots, and `rest` more come before value n
pub record IsCountedTo (slots taken n j rest : ℕ) (c : List ℕ) : Type 0 where
  pub counted : n ≡ length (points_before slots c taken j) + rest

module _ (slots taken used n : ℕ) (c : List ℕ) (holds : HoldsValue slots taken used n c) (j : ℕ)
    (within : used ≤ slots) (below : j < used) (m : ℕ) (is : m ≡ min 64 (count_in (slot_at slots c j))) where
  -- a used slot holds all of its batch
  all_beyond : points_beyond taken (batch_at slots c j) ≡ (batch_at slots c j).points
  all_beyond = beyond_all taken (batch_at slots c j) (holds.filled.beyond j below)

  -- which are so many
  held_there : length (points_beyond taken (batch_at slots c j)) ≡ m
  held_there = grind (arith, all_beyond, length-points_in)

  -- value n is after them
  pub counted_more : (rest : ℕ) → IsCountedTo slots taken n j rest c → m ≤ rest → IsCountedTo slots taken n
      (j + 1) (rest - m) c
  counted_more rest so_far behind = grind (arith, points_more, points_open, length-append, held_there)

  -- or it is among them
  pub value_here : (rest a : ℕ) → IsCountedTo slots taken n j rest c → rest < m
      → a ≡ place_of slots j + (10 + 16 * rest) → IsValuePlace slots c taken n a j rest
  value_here rest a so_far among at = grind (arith, held_there)

-- all values are counted once the used slots are
counted_all : (slots taken used n rest : ℕ) (c : List ℕ) → HoldsValue slots taken used n c → used ≤ slots
    → IsCountedTo slots taken n used rest c → ⊥
counted_all slots taken used n rest c holds within so_far = grind (arith, lane_points_used)

-- the same of a device
pub more_shown : (o : Trace) (slots taken used n j rest m : ℕ) → used ≤ slots → j < used
    → Shows o (HoldsValue slots taken used n) → Shows o (λ c. m ≡ min 64 (count_in (slot_at slots c j))) → m ≤ rest
    → Shows o (IsCountedTo slots taken n j rest) → Shows o (IsCountedTo slots taken n (j + 1) (rest - m))
more_shown t slots taken used n j rest m within below holds count behind so_far =
    counted_more slots taken used n (seen t) holds j within below m count rest so_far behind

pub value_shown : (o : Trace) (slots taken used n j rest m a : ℕ) → used ≤ slots → j < used
    → Shows o (HoldsValue slots taken used n) → Shows o (λ c. m ≡ min 64 (count_in (slot_at slots c j))) → rest < m
    → Shows o (IsCountedTo slots taken n j rest) → a ≡ place_of slots j + (10 + 16 * rest)
    → Shows o (λ c. (k : ℕ) × (i : ℕ) × IsValuePlace slots c taken n a k i)
value_shown t slots taken used n j rest m a within below holds count among so_far at =
    (j, rest, value_here slots taken used n (seen t) holds j within below m count rest a so_far among at)

pub never_shown : (o : Trace) (slots taken used n j rest a : ℕ) → used ≤ slots → used ≤ j → j ≤ used
    → Shows o (HoldsValue slots taken used n) → Shows o (IsCountedTo slots taken n j rest)
    → Shows o (λ c. (k : ℕ) × (i : ℕ) × IsValuePlace slots c taken n a k i)
never_shown t slots taken used n j rest a within low high holds so_far =
    let same : j ≡ used = omega (arith, low, high) in
    absurd (counted_all slots taken used n rest (seen t) holds within
    (subst (λ k. IsCountedTo slots taken n k rest (seen t)) same so_far))

-- the byte at a value's place was read
pub value_told : (o : Trace) (slots taken n a : ℕ) (bytes : List ℕ) → length bytes ≡ 1 → Reads o a bytes
    → Shows o (λ c. a < length c) → Shows o (λ c. (j : ℕ) × (i : ℕ) × IsValuePlace slots c taken n a j i)
    → Shows o (λ c. (j : ℕ) × (i : ℕ) × IsValuePlace slots c taken n a j i
    × StandsThere c a (Some (get_or bytes 0 0)))
value_told t slots taken n a bytes size read within place = (
  place.0,
  place.1,
  place.2,
  record {
    within = within;
    byte_there = ap Some (sym (ap (λ k. get_or (seen t) k 0) (omega arith)
        ∙ byte_here bytes a (seen t) 0 (omega (arith, size)) read));
  },
)

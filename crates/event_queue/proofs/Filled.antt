-- A lane in use, before and after an append.
use Rattle.std.proofs.Common.{◌≡◌, ◌≢◌, ⊎_elim, ℕ, zero, suc, ◌+◌, ◌-◌, ◌^◌, ◌<◌, ◌≤◌, List, ◌++◌, length, get_or, take, drop, ◌∙◌, ap, arith, length-append, add-zero, take-append-drop}
use Rattle.std.proofs.lemmas.{Bool.cases_lt, List.append-nil, List.take-take}
use Rattle.std.specs.List.{All}
use Rattle.trend_num.specs.{declared.point.Point.Point, Ranges.InRange}
use Rattle.disk_model.specs.{open_byte, IsOpen, IsGuarded}
use Rattle.event_queue.specs.{gate_of, place_of, batch_bytes, slot_at, batch_at, slot_points_of, points_before, lane_points, IsSound, IsLane, HasRoom, IsFilled}
use Rattle.event_queue.proofs.{Batches.length-batch_bytes, Batches.batch_in-bytes, Rooms.gate_outside, Rooms.room_guarded}
use Rattle.event_queue.proofs.Steps.{beyond_all, lane_more, points_shut, points_open, points_more}
use Rattle.event_queue.proofs.SameLanes.{HasSameSlots, same_slot, same_points, same_beyond, same_lane}

-- no gate from `used` on is open, so all points are in the slots before
pub points_used : (slots taken used m : ℕ) (c : List ℕ)
    → ((k : ℕ) → used ≤ k → k < used + m → get_or c (gate_of k) 0 ≢ open_byte)
    → points_before slots c taken (used + m) ≡ points_before slots c taken used
points_used slots taken used zero c shut = ap (points_before slots c taken) (add-zero used)
points_used slots taken used (suc m) c shut =
    let longer : used + suc m ≡ used + m + 1 = omega arith in
    cc (
      points_more slots taken c (used + m),
      points_shut slots taken c (used + m)
          (shut (used + m) (omega arith) (omega arith)),
      append-nil (points_before slots c taken (used + m)),
      points_used slots taken used m c (λ k low below. shut k low (omega (arith, below))),
    )

-- the whole lane's, then
pub lane_points_used : (slots taken used : ℕ) (c : List ℕ) → used ≤ slots → HasRoom slots used c
    → lane_points slots c taken ≡ points_before slots c taken used
lane_points_used slots taken used c within room =
    let whole : slots ≡ used + (slots - used) = omega arith in
    cc (points_used slots taken used (slots - used) c (λ k low below. room.shut k low (omega (arith, within, below))))

-- and the whole keeps the layout where they do
pub lane_used : (slots taken used : ℕ) (c : List ℕ) → HasRoom slots used c → IsLane slots c taken used
    → IsLane slots c taken slots
lane_used slots taken used c room lane = record {
  sound = λ k below opened.
      ⊎_elim (λ before. lane.sound k before opened) (λ behind. absurd (room.shut k behind below opened))
      (cases_lt k used);
}

-- a shorter front of a lane
pub lane_front : (slots taken n m : ℕ) (c : List ℕ) → m ≤ n → IsLane slots c taken n → IsLane slots c taken m
lane_front slots taken n m c le lane = record { sound = λ k below opened. grind (arith, lane.sound) }

-- if these bytes lie at a slot's beginning, the slot holds their batch
pub batch_held : (slots k first : ℕ) (ps : List Point) (c : List ℕ) → first < 2 ^ 64 → length ps ≤ 64 → All InRange ps
    → take (length (batch_bytes first ps)) (drop (place_of slots k) c) ≡ batch_bytes first ps
    → batch_at slots c k ≡ record { first = first; count = length ps; points = ps }
batch_held slots k first ps c small few inside holds =
    let m = length (batch_bytes first ps) in
    let slot = slot_at slots c k in
    let front : take m slot ≡ batch_bytes first ps = take-take m 1034 (drop (place_of slots k) c)
    (omega (arith, length-batch_bytes first ps, few)) ∙ holds in
    cc (take-append-drop m slot, batch_in-bytes first ps (drop m slot) small few inside)

module _ (slots taken used next : ℕ) (held batch : List Point) (old new : List ℕ) (free : used < slots)
    (some : 1 ≤ length batch) (few : length batch ≤ 64) (inside : All InRange batch)
    (small : next + length batch < 2 ^ 64) (filled : IsFilled slots taken used next old held)
    (guarded : IsGuarded (place_of slots used) (batch_bytes next batch) (gate_of used) old new) where
  -- every other gate is as it was
  gate_same : (k : ℕ) → k < slots → k ≢ used → get_or new (gate_of k) 0 ≡ get_or old (gate_of k) 0
  gate_same k there other = grind (arith, gate_outside)

  -- and so are the used slots
  slot_same : (k : ℕ) → k < used → slot_at slots new k ≡ slot_at slots old k
  slot_same k before = grind (arith, same_slot, before)

  -- an open gate before was that of a used slot
  was_used : (k : ℕ) → k < slots → IsOpen (gate_of k) old → k < used
  was_used k there opened = grind arith

  -- where the gate is closed, the lane holds what it held
  pub absent : get_or new (gate_of used) 0 ≢ open_byte → IsFilled slots taken used next new held
  absent shut = record {
    room = grind (arith, closed);
    lane = same_lane slots taken slots old new same slots (omega arith) filled.lane;
    opened = λ k before. grind (arith, same.forth, filled.opened);
    beyond = λ k before. grind (arith, before, same_beyond, same);
    points = same_points slots taken slots old new same slots (omega arith) ∙ filled.points;
    number = filled.number;
  }
    where
      closed : (k : ℕ) → used ≤ k → k < slots → IsOpen (gate_of k) new → ⊥
      closed k low there opened = grind (arith, gate_same)

      same : HasSameSlots slots slots old new
      same = grind (arith, gate_same, was_used, slot_same)

  -- where it is open, the lane holds the batch after that
  pub whole : IsOpen (gate_of used) new → IsFilled slots taken (used + 1) (next + length batch) new (held ++ batch)
  whole opened = record {
    room = room;
    lane = lane_used slots taken (used + 1) new room lane;
    opened = λ k below. grind (arith, same.forth);
    beyond = λ k below. grind (arith, before, same_beyond, same, last_beyond);
    points = lane_points_used slots taken (used + 1) new (omega arith) room ∙ points_more slots taken new used
        ∙ ap (λ l. l ++ slot_points_of slots new taken used) before
        ∙ ap (λ l. held ++ l) (grind (arith, points_open, beyond_all, last_beyond, last));
    number = omega (arith, filled.number, length-append held batch);
  }
    where
      same : HasSameSlots slots used old new
      same = grind (arith, gate_same, slot_same)

      room : HasRoom slots (used + 1) new
      room = room_guarded slots used (batch_bytes next batch) old new free filled.room guarded

      last : batch_at slots new used ≡ record { first = next; count = length batch; points = batch }
      last = batch_held slots used next batch new (omega (arith, small)) few inside (guarded.whole opened)

      first_is : (batch_at slots new used).first ≡ next
      first_is = cc last

      count_is : (batch_at slots new used).count ≡ length batch
      count_is = cc last

      last_beyond : taken < (batch_at slots new used).first + (batch_at slots new used).count
      last_beyond = omega (arith, first_is, count_is, some, filled.number)

      before : points_before slots new taken used ≡ held
      before = grind (arith, same_points, same, lane_points_used)

      sound : IsSound slots new taken used
      sound = grind (arith, count_is, first_is, before, same_beyond, same, last)

      lane : IsLane slots new taken (used + 1)
      lane = lane_more slots taken new used (grind (arith, same_lane, same, lane_front)) (λ again. sound)

-- What a lane holds depends only on which gates are open, and on the slots that these gates guard.
use Rattle.std.proofs.Common.{◌≡◌, ⊎_elim, ℕ, zero, suc, ◌+◌, ◌<◌, ◌≤◌, List, length, get_or, take, drop, refl, sym, ◌∙◌, ap, subst, arith, length-take, length-drop}
use Rattle.std.proofs.lemmas.{Bool.cases_eq, List.get_or-drop, List.ext_get_or}
use Rattle.disk_model.specs.{open_byte, IsOpen}
use Rattle.disk_model.proofs.Bytes.{holds_same}
use Rattle.event_queue.specs.{gate_of, place_of, lane_end, slot_at, batch_in, batch_at, IsStale, slot_points_of, points_before, FollowsOn, IsSound, IsLane}
use Rattle.event_queue.proofs.Steps.{points_shut, points_open}

-- of the first n slots the same are open, and hold the same bytes
pub record HasSameSlots (slots n : ℕ) (a b : List ℕ) : Type 0 where
  pub forth : (k : ℕ) → k < n → IsOpen (gate_of k) a → IsOpen (gate_of k) b
  pub back : (k : ℕ) → k < n → IsOpen (gate_of k) b → IsOpen (gate_of k) a
  pub same : (k : ℕ) → k < n → IsOpen (gate_of k) a → slot_at slots b k ≡ slot_at slots a k

-- bytes that agree from slot k on
pub same_behind : (slots k : ℕ) (a b : List ℕ) → length b ≡ length a
    → ((i : ℕ) → place_of slots k ≤ i → get_or b i 0 ≡ get_or a i 0) → slot_at slots b k ≡ slot_at slots a k
same_behind slots k a b size same =
    let at = place_of slots k in
    cc (ext_get_or 0 (drop at b) (drop at a) (omega (arith, length-drop at b, length-drop at a, size))
    (λ i below. get_or-drop at b i 0 ∙ same (at + i) (omega arith) ∙ sym (get_or-drop at a i 0)))

-- bytes that agree in slot k, which is whole in both
pub same_slot : (slots k : ℕ) (a b : List ℕ) → place_of slots k + 1034 ≤ length a → place_of slots k + 1034 ≤ length b
    → ((i : ℕ) → place_of slots k ≤ i → i < place_of slots k + 1034 → get_or b i 0 ≡ get_or a i 0)
    → slot_at slots b k ≡ slot_at slots a k
same_slot slots k a b a_long b_long same =
    let at = place_of slots k in
    let a_size : length (take 1034 (drop at a))
    ≡ 1034 = omega (arith, length-take 1034 (drop at a), length-drop at a) in
    cc (holds_same at (take 1034 (drop at a)) b a (omega (arith, a_size)) (omega (arith, a_size))
    (λ i low below. same i low (omega (arith, a_size, below))) (ap (λ n. take n (drop at a)) a_size))

module _ (slots taken n : ℕ) (a b : List ℕ) (is : HasSameSlots slots n a b) where
  -- the same batches
  pub same_batch : (k : ℕ) → k < n → IsOpen (gate_of k) a → batch_at slots b k ≡ batch_at slots a k
  same_batch k there opened = ap batch_in (is.same k there opened)

  -- the same points
  same_points_of : (k : ℕ) → k < n → slot_points_of slots b taken k ≡ slot_points_of slots a taken k
  same_points_of k there = ⊎_elim
      (λ opened. grind (arith, points_open, same_batch))
      (λ shut. grind (arith, points_shut))
      (cases_eq (get_or a (gate_of k) 0) open_byte)

  pub same_points : (m : ℕ) → m ≤ n → points_before slots b taken m ≡ points_before slots a taken m
  same_points zero within = refl
  same_points (suc m) within = cc (same_points m (omega (arith, within)), same_points_of m (omega (arith, within)))

  -- the same batches are stale
  pub same_stale : (k : ℕ) → k < n → IsOpen (gate_of k) a → IsStale taken (batch_at slots a k)
      → IsStale taken (batch_at slots b k)
  same_stale k there opened stale = subst (IsStale taken) (sym (same_batch k there opened)) stale

  pub same_beyond : (k : ℕ) → k < n → IsOpen (gate_of k) a
      → taken < (batch_at slots a k).first + (batch_at slots a k).count
      → taken < (batch_at slots b k).first + (batch_at slots b k).count
  same_beyond k there opened beyond = grind (arith, same_batch)

  -- the same slots keep the layout
  same_follows : (k : ℕ) → k < n → IsOpen (gate_of k) a → FollowsOn slots a taken k → FollowsOn slots b taken k
  same_follows k there opened follows = grind (arith, same_stale, same_batch, same_points, same_beyond)

  pub same_sound : (k : ℕ) → k < n → IsOpen (gate_of k) a → IsSound slots a taken k → IsSound slots b taken k
  same_sound k there opened sound = grind (arith, same_batch, same_follows)

  pub same_lane : (m : ℕ) → m ≤ n → IsLane slots a taken m → IsLane slots b taken m
  same_lane m within lane = grind (arith, same_sound)

-- two images with the same bytes from the first gate to the last slot hold the same lane
pub same_bytes : (slots : ℕ) (a b : List ℕ) → lane_end slots ≤ length a → lane_end slots ≤ length b
    → ((i : ℕ) → gate_of 0 ≤ i → i < lane_end slots → get_or b i 0 ≡ get_or a i 0) → HasSameSlots slots slots a b
same_bytes slots a b a_long b_long same = grind (arith, same_slot)

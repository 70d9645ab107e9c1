-- Pooled frames that are written, given back and taken.
use Rattle.std.proofs.Common.{◌≡◌, ◌≢◌, ℕ, zero, suc, ◌+◌, ◌-◌, ◌<◌, Bool, true, false, cond, List, [], ◌∷◌, ◌++◌, length, map, get_or, set, replicate, Option, Some, None, IsSome, is_none, All, AllPairs, refl, sym, ap, ◌∙◌, arith, subst}
use Rattle.std.proofs.Common.{append_assoc}
use Rattle.std.specs.Prelude.{not}
use Rattle.std.proofs.lemmas.List.{length-set, length-map, length-append, length_push, map-set, map_push, set-append_left, set_at, get_or-set_same, get_or-set_other, get_or_append_left, get_or_push, get_or-map, get_or-append_right}
use Rattle.std.proofs.lemmas.List.{length-replicate}
use Rattle.std.proofs.lemmas.List.Sums.{sum_by-set, count_by-le-length}
use Rattle.std.proofs.lemmas.List.Elements.{All-push, All-pop}
use Rattle.std.proofs.lemmas.List.Quantifiers.{all_pairs_push}
use Rattle.page_pool.specs.{Frame, PooledFrame, frame_at, spare_of, empty_frame, TakesFrame, IsHeld, held_in, places_of, IsFree, AreFramesStored}

-- ---- places

-- a pooled frame that is written is a place that is written
pub places-set : (frames : List PooledFrame) (size i : ℕ) (s : PooledFrame) → i < length frames
    → places_of (set frames i s) size ≡ set (places_of frames size) i (held_in s)
places-set frames size i s within =
    let inside : i < length (map held_in frames) = omega (arith, length-map frames held_in) in
    rw (length-set, map-set) (sym (set-append_left (map held_in frames) (replicate (size - length frames) None) i (held_in s) inside))

-- a pooled frame more is the first untouched place, written
pub places-push : (frames : List PooledFrame) (size : ℕ) (s : PooledFrame) → length frames < size
    → places_of (frames ++ s ∷ []) size ≡ set (places_of frames size) (length frames) (held_in s)
places-push frames size s room =
    let left = replicate {A = Option Frame} (size - length (frames ++ s ∷ [])) None in
    let rest : size - length frames ≡ suc (size - length (frames ++ s ∷ [])) = omega (arith, length_push frames s) in
    rw (rest, map_push)
    (append_assoc (map held_in frames) (held_in s ∷ []) left
    ∙ sym (set_at (map held_in frames) None left (held_in s) (length frames) (length-map frames held_in)))

-- ---- how many are spare

-- what a place counts for
abbrev weight : Option Frame → ℕ
weight o = cond (is_none o) 1 0

-- the count goes down where a spare place is taken
pub spare-taken : (pool : List (Option Frame)) (id : ℕ) (f : Frame) → id < length pool → frame_at pool id ≡ None
    → spare_of (set pool id (Some f)) + 1 ≡ spare_of pool
spare-taken pool id f within spare =
    let one : weight (get_or pool id None) ≡ 1 = ap weight spare in
    omega (arith, sum_by-set weight pool id (Some f) None within)

-- a taken place is one of the pool's
pub held_within : (pool : List (Option Frame)) (id : ℕ) → IsHeld pool id → id < length pool
held_within [] id held = absurd cc
held_within (o ∷ pool) zero held = omega arith
held_within (o ∷ pool) (suc id) held = let h = held_within pool id held in omega arith

-- it goes up where a taken place is given back
pub spare-given : (pool : List (Option Frame)) (id : ℕ) → IsHeld pool id → spare_of (set pool id None) ≡ spare_of pool + 1
spare-given pool id held =
    let none : weight (get_or pool id None) ≡ 0 = ap (λ b. cond {A = ℕ} (not b) 1 0) held in
    omega (arith, sum_by-set weight pool id None None (held_within pool id held))

-- it stays where a taken place is written
pub spare-written : (pool : List (Option Frame)) (id : ℕ) (f : Frame) → IsHeld pool id → spare_of (set pool id (Some f)) ≡ spare_of pool
spare-written pool id f held =
    let none : weight (get_or pool id None) ≡ 0 = ap (λ b. cond {A = ℕ} (not b) 1 0) held in
    omega (arith, sum_by-set weight pool id (Some f) None (held_within pool id held))

-- ---- what is stored

-- an untouched place holds nothing
none_there : (n id : ℕ) → get_or (replicate {A = Option Frame} n None) id None ≡ None
none_there zero id = refl
none_there (suc n) zero = refl
none_there (suc n) (suc id) = none_there n id

-- a place that holds a frame is before the untouched ones
in_front : (places : List (Option Frame)) (n id : ℕ) → IsHeld (places ++ replicate n None) id → IsHeld places id
in_front [] n id held = let none = none_there n id in absurd cc
in_front (o ∷ places) n zero held = held
in_front (o ∷ places) n (suc id) held = in_front places n id held

-- the pooled frame at a taken place is held
pub frame_held : (frames : List PooledFrame) (size id : ℕ) → IsHeld (places_of frames size) id → IsHeld (map held_in frames) id
frame_held frames size id held = in_front (map held_in frames) (size - length frames) id held

-- a taken place is one of the pooled frames
pub frame_within : (frames : List PooledFrame) (place : ℕ) → IsHeld (map held_in frames) place → place < length frames
frame_within frames place held = omega (arith, held_within (map held_in frames) place held, length-map frames held_in)

-- the same from what the pool and the id are seen as
pub held_there : (frames : List PooledFrame) (size place id : ℕ) (pool : List (Option Frame)) → places_of frames size ≡ pool → place ≡ id
    → IsHeld pool id → IsHeld (map held_in frames) place
held_there frames size place id pool seen same held =
    frame_held frames size place (subst (λ q. IsHeld q place) (sym seen) (subst (IsHeld pool) (sym same) held))

-- a pooled frame that is there is held
by_test : (b : Bool) (f : Frame) → IsSome (cond b (Some f) None) → b ≡ true
by_test true f some = refl
by_test false f some = absurd cc

-- so is the one that is read at a taken place, and its frame is there
pub read_held : (frames : List PooledFrame) (place : ℕ) (s : PooledFrame) → s ≡ get_or frames place s → IsHeld (map held_in frames) place
    → (s.held ≡ true) × (get_or (map held_in frames) place None ≡ Some s.frame)
read_held frames place s read held =
    let within = frame_within frames place held in
    let there : get_or (map held_in frames) place None ≡ held_in s = get_or-map held_in frames place s None within ∙ ap held_in (sym read) in
    let is = by_test s.held s.frame (subst (λ o. IsSome o) there held) in
    (is, there ∙ ap (λ b. cond b (Some s.frame) None) is)

-- ids of spare frames are ids of spare frames after another one is written
free_kept : (frames : List PooledFrame) (i : ℕ) (s : PooledFrame) (ids : List ℕ) → All (IsFree frames) ids
    → ((k d : ℕ) → k < length ids → get_or ids k d ≢ i) → All (IsFree (set frames i s)) ids
free_kept frames i s ids spare other k d within =
    let h = spare k d within in
    let ne = other k d within in
    (omega (arith, length-set frames i s), rw map-set (get_or-set_other (map held_in frames) i (get_or ids k d) (held_in s) None ne ∙ h.1))

-- no spare frame is held
held_apart : (frames : List PooledFrame) (i : ℕ) (ids : List ℕ) → All (IsFree frames) ids → IsHeld (map held_in frames) i
    → (k d : ℕ) → k < length ids → get_or ids k d ≢ i
held_apart frames i ids spare held k d within same =
    let none = (spare k d within).1 in
    let here : get_or (map held_in frames) i None ≡ None = subst (λ j. get_or (map held_in frames) j None ≡ None) same none in
    absurd cc

-- of numbers that differ the last differs from each before it
last_apart : (ids : List ℕ) (i : ℕ) → AllPairs ◌≢◌ (ids ++ i ∷ []) → (k d : ℕ) → k < length ids → get_or ids k d ≢ i
last_apart ids i once k d within same =
    let last = get_or_push ids i d (length ids) refl in
    once k (length ids) d within (omega (arith, length_push ids i)) (get_or_append_left ids (i ∷ []) d k within ∙ (same ∙ sym last))

-- and so do those before it
once_front : (ids : List ℕ) (i : ℕ) → AllPairs ◌≢◌ (ids ++ i ∷ []) → AllPairs ◌≢◌ ids
once_front ids i once j k d below within same =
    let first : get_or (ids ++ i ∷ []) j d ≡ get_or ids j d = get_or_append_left ids (i ∷ []) d j (omega arith) in
    let second : get_or (ids ++ i ∷ []) k d ≡ get_or ids k d = get_or_append_left ids (i ∷ []) d k within in
    once j k d below (omega (arith, length_push ids i)) (first ∙ (same ∙ sym second))

-- where a frame is held, there are fewer free ids than places
pub has_room : (frames : List PooledFrame) (free : List ℕ) (size frame_room free_room place : ℕ) → AreFramesStored frames free size frame_room free_room
    → IsHeld (map held_in frames) place → length free < free_room
has_room frames free size frame_room free_room place stored held =
    let after = set (map held_in frames) place None in
    omega (
      arith,
      stored.counted,
      stored.within,
      stored.id_room,
      spare-given (map held_in frames) place held,
      count_by-le-length is_none after,
      length-set (map held_in frames) place None,
      length-map frames held_in,
    )

module _ (frames : List PooledFrame) (size frame_room free_room : ℕ) where
  -- a held frame is written
  pub stored-written : (free : List ℕ) (i : ℕ) (s : PooledFrame) → AreFramesStored frames free size frame_room free_room
      → IsHeld (map held_in frames) i → s.held ≡ true → AreFramesStored (set frames i s) free size frame_room free_room
  stored-written free i s stored held is =
      let within = held_within (map held_in frames) i held in
      let now : held_in s ≡ Some s.frame = ap (λ b. cond b (Some s.frame) None) is in
      record {
        within = omega (arith, length-set frames i s);
        small = stored.small;
        place_room = stored.place_room;
        id_room = stored.id_room;
        spare = free_kept frames i s free stored.spare (held_apart frames i free stored.spare held);
        once = stored.once;
        counted = rw (map-set, now) (stored.counted ∙ sym (spare-written (map held_in frames) i s.frame held));
      }

  -- a held frame is given back
  pub stored-given : (free : List ℕ) (i : ℕ) (f : Frame) → AreFramesStored frames free size frame_room free_room → IsHeld (map held_in frames) i
      → AreFramesStored (set frames i (record { held = false; frame = f })) (free ++ i ∷ []) size frame_room free_room
  stored-given free i f stored held =
      let pooled : PooledFrame = record { held = false; frame = f } in
      let inside : i < length frames = omega (arith, held_within (map held_in frames) i held, length-map frames held_in) in
      let here : i < length (map held_in frames) = held_within (map held_in frames) i held in
      let apart = held_apart frames i free stored.spare held in
      let is_free : IsFree (set frames i pooled) i =
      (omega (arith, length-set frames i pooled), rw map-set (get_or-set_same (map held_in frames) i None None here)) in
      record {
        within = omega (arith, length-set frames i pooled);
        small = stored.small;
        place_room = stored.place_room;
        id_room = stored.id_room;
        spare = All-push (IsFree (set frames i pooled)) free i (free_kept frames i pooled free stored.spare apart) is_free;
        once = all_pairs_push ◌≢◌ free i stored.once apart;
        counted = rw (length_push, map-set) (ap (λ n. n + 1) stored.counted ∙ sym (spare-given (map held_in frames) i held));
      }

  -- a spare frame is taken again
  stored-taken : (free : List ℕ) (i : ℕ) (f : Frame) → AreFramesStored frames (free ++ i ∷ []) size frame_room free_room
      → AreFramesStored (set frames i (record { held = true; frame = f })) free size frame_room free_room
  stored-taken free i f stored =
      let pooled : PooledFrame = record { held = true; frame = f } in
      let parts = All-pop (IsFree frames) (free ++ i ∷ []) free (Some i) refl stored.spare in
      let here : i < length (map held_in frames) = omega (arith, parts.1.0, length-map frames held_in) in
      record {
        within = omega (arith, length-set frames i pooled);
        small = stored.small;
        place_room = stored.place_room;
        id_room = stored.id_room;
        spare = free_kept frames i pooled free parts.0 (last_apart free i stored.once);
        once = once_front free i stored.once;
        counted = rw map-set (omega (arith, spare-taken (map held_in frames) i f here parts.1.1, stored.counted, length_push free i));
      }

  -- the same from what the id is seen as
  pub stored-reused : (before free : List ℕ) (id place : ℕ) (f : Frame) → before ≡ free ++ id ∷ [] → place ≡ id
      → AreFramesStored frames before size frame_room free_room
      → AreFramesStored (set frames place (record { held = true; frame = f })) free size frame_room free_room
  stored-reused before free id place f popped same stored =
      subst (λ i. AreFramesStored (set frames i (record { held = true; frame = f })) free size frame_room free_room) (sym same)
      (stored-taken free id f (subst (λ ids. AreFramesStored frames ids size frame_room free_room) popped stored))

  -- the last free id is of a spare frame
  free_last : (free : List ℕ) (i : ℕ) → AreFramesStored frames (free ++ i ∷ []) size frame_room free_room → IsFree frames i
  free_last free i stored = (All-pop (IsFree frames) (free ++ i ∷ []) free (Some i) refl stored.spare).1

-- ---- what the pool is then seen as

module _ (frames : List PooledFrame) (size place id : ℕ) (pool : List (Option Frame)) (seen : places_of frames size ≡ pool) (same : place ≡ id) where
  -- a pooled frame that is written is a place that is written
  pub pool-set : (s : PooledFrame) → place < length frames → places_of (set frames place s) size ≡ set pool id (held_in s)
  pool-set s within = subst (λ q. places_of (set frames place s) size ≡ set q id (held_in s)) seen
      (subst (λ i. places_of (set frames place s) size ≡ set (places_of frames size) i (held_in s)) same (places-set frames size place s within))

  -- a taken frame that is written
  pub pool-written : (s : PooledFrame) → IsHeld pool id → s.held ≡ true → places_of (set frames place s) size ≡ set pool id (Some s.frame)
  pool-written s held is =
      pool-set s (frame_within frames place (held_there frames size place id pool seen same held))
      ∙ ap (λ b. set pool id (cond b (Some s.frame) None)) is

  -- a taken frame that is read
  pub pool-read : (s : PooledFrame) → s ≡ get_or frames place s → IsHeld pool id → frame_at pool id ≡ Some s.frame
  pool-read s read held =
      let there = held_there frames size place id pool seen same held in
      let front = get_or_append_left (map held_in frames) (replicate (size - length frames) None) None place (held_within (map held_in frames) place there) in
      subst (λ q. frame_at q id ≡ Some s.frame) seen
      (subst (λ i. frame_at (places_of frames size) i ≡ Some s.frame) same (front ∙ (read_held frames place s read there).1))

  -- a frame that was given back is taken again
  pub pool-reused : (frame_room free_room : ℕ) (before free : List ℕ) (f : Frame) → f ≡ empty_frame → before ≡ free ++ id ∷ []
      → AreFramesStored frames before size frame_room free_room → TakesFrame pool id (places_of (set frames place (record { held = true; frame = f })) size)
  pool-reused frame_room free_room before free f empty popped stored =
      let last = free_last frames size frame_room free_room free id (subst (λ ids. AreFramesStored frames ids size frame_room free_room) popped stored) in
      let spare : IsFree frames place = subst (IsFree frames) (sym same) last in
      let inside : place < length (map held_in frames) = omega (arith, spare.0, length-map frames held_in) in
      let there = get_or_append_left (map held_in frames) (replicate (size - length frames) None) None place inside ∙ spare.1 in
      let within : place < length (places_of frames size) = omega (arith, length-append (map held_in frames) (replicate (size - length frames) None)) in
      let both = subst (λ q. (id < length q) × (frame_at q id ≡ None)) seen
      (subst (λ i. (i < length (places_of frames size)) × (frame_at (places_of frames size) i ≡ None)) same (within, there)) in
      let pooled : PooledFrame = record { held = true; frame = f } in
      record { within = both.0; was_spare = both.1; now_empty = pool-set pooled spare.0 ∙ ap (λ g. set pool id (Some g)) empty }

-- the first place that was not touched is spare
untouched : (frames : List PooledFrame) (size : ℕ) → length frames < size
    → (length frames < length (places_of frames size)) × (frame_at (places_of frames size) (length frames) ≡ None)
untouched frames size room =
    let n = length frames in
    let rest = replicate {A = Option Frame} (size - n) None in (
      omega (arith, length-append (map held_in frames) rest, length-map frames held_in, length-replicate {A = Option Frame} (size - n) None),
      get_or-append_right (map held_in frames) rest n n None (length-map frames held_in) (omega arith) ∙ none_there (size - n) (n - n),
    )

-- a frame that was never touched is taken
pub pool-touched : (frames after : List PooledFrame) (size place : ℕ) (pool : List (Option Frame)) (f : Frame) → places_of frames size ≡ pool
    → place ≡ length frames → f ≡ empty_frame → after ≡ frames ++ record { held = true; frame = f } ∷ [] → place < size
    → TakesFrame pool place (places_of after size)
pool-touched frames after size place pool f seen last empty pushed room =
    let pooled : PooledFrame = record { held = true; frame = f } in
    let room' : length frames < size = omega arith in
    let spare = untouched frames size room' in
    let there = subst (λ q. (place < length q) × (frame_at q place ≡ None)) seen
    (subst (λ i. (i < length (places_of frames size)) × (frame_at (places_of frames size) i ≡ None)) (sym last) spare) in
    let now : places_of after size ≡ set (places_of frames size) place (Some f) =
    ap (λ ss. places_of ss size) pushed ∙ (places-push frames size pooled room' ∙ ap (λ i. set (places_of frames size) i (Some f)) (sym last)) in
    record {
      within = there.0;
      was_spare = there.1;
      now_empty = now ∙ (ap (λ q. set q place (Some f)) seen ∙ ap (λ g. set pool place (Some g)) empty);
    }

-- taking one, there is one less that is spare
pub spare-takes : (old new : List (Option Frame)) (id : ℕ) → TakesFrame old id new → spare_of new + 1 ≡ spare_of old
spare-takes old new id takes =
    subst (λ q. spare_of q + 1 ≡ spare_of old) (sym takes.now_empty) (spare-taken old id empty_frame takes.within takes.was_spare)

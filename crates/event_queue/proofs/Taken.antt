-- One open slot: what its fields decide.
use Rattle.std.proofs.Common.{◌≡◌, ◌⊎◌, ◌↔◌, ℕ, ◌+◌, ◌*◌, ◌<◌, ◌≤◌, Bool, true, cond, List, [], ◌++◌, length, take, drop, arith, length-append}
use Rattle.std.proofs.lemmas.{Grind.common_steps, Bool.true≢false, List.drop-drop, List.append-nil}
use Rattle.std.specs.{Int.w16, Int.w64, Int.from_be_bytes, List.All}
use Rattle.trend_num.specs.{InRange}
use Rattle.archive_file.specs.{point_at}
use Rattle.event_queue.specs.{declared.reader.Scanned.Scanned, slot_points, slot_at, batch_at, IsStale, points_beyond, FollowsOn, IsCounted, IsCountBroken, IsFirstBroken, IsPointBroken, IsWithin, IsRead, FitsSlot, IsOpenSlot}
use Rattle.event_queue.proofs.{Batches.length-points_in, Batches.take-points_in, Rules.fits_follow, Rules.misfit_follow}
use Rattle.event_queue.proofs.Steps.{HasFields, points_counted, beyond_stale, beyond_all, read_open}

-- the fields, as they are read one after the other
pub fields_read : (slot behind rest : List ℕ) (first count : ℕ) → first ≡ from_be_bytes w64 (take 8 slot)
    → behind ≡ drop 8 slot
    → count ≡ from_be_bytes w16 (take 2 behind) → rest ≡ drop 2 behind → HasFields slot first count rest
fields_read slot behind rest first count number is counted left = grind (arith, counted, left, drop-drop)

-- a list of no length has no elements
none_there : {X : Type 0} (xs : List X) → length xs ≤ 0 → xs ≡ []
none_there xs none = grind (arith, common_steps)

-- what holds of the whole, whatever the device, extends to one open slot more
pub within_more : (slots taken k first count : ℕ) (rest : List ℕ) (s new : Scanned) (stale : Bool)
    → IsWithin slots taken k s → FitsSlot s k first stale → count ≤ 64 → All InRange (slot_points count rest)
    → new.lane.slots ≡ s.lane.slots → new.lane.used ≡ k + 1 → new.lane.next ≡ s.lane.next + cond stale 0 count
    → new.points.items ≡ s.points.items ++ slot_points (cond stale 0 count) rest → new.stale ≡ stale
    → IsWithin slots taken (k + 1) new
within_more slots taken k first count rest s new stale within fits few inside same used next points told =
    grind (arith, none_there, append-nil, common_steps, true≢false, length-append, length-points_in)

module _ (slots taken : ℕ) (bytes : List ℕ) (k first count : ℕ) (slot rest : List ℕ)
    (fields : HasFields slot first count rest) (at_slot : IsOpenSlot slots bytes k slot) where
  -- the fields are those of slot k
  first_at : first ≡ (batch_at slots bytes k).first
  first_at = cc

  count_at : count ≡ (batch_at slots bytes k).count
  count_at = cc

  points_at : count ≤ 64 → (batch_at slots bytes k).points ≡ slot_points count rest
  points_at few = grind (arith, points_counted)

  -- a count that is none breaks the layout
  pub count_breaks : (count ≡ 0) ⊎ (64 < count) → IsCountBroken slots bytes k 8
  count_breaks bad = grind (arith, count_at)

  module _ (some : 1 ≤ count) (few : count ≤ 64) where
    counted : IsCounted (batch_at slots bytes k)
    counted = record { some = omega (arith, some, count_at); few = omega (arith, few, count_at) }

    module _ (s : Scanned) (read : IsRead slots taken bytes k s) (within : IsWithin slots taken k s)
        (stale : Bool) (tested : (stale ≡ true) ↔ (first + count ≤ taken)) where
      stale_at : (stale ≡ true) ↔ IsStale taken (batch_at slots bytes k)
      stale_at = grind (arith, first_at, count_at)

      -- so does a first number that does not fit
      pub first_breaks : (FitsSlot s k first stale → ⊥) → IsFirstBroken slots bytes taken k 0
      first_breaks unfit = grind (arith, counted, misfit_follow, stale_at, first_at)

      module _ (fits : FitsSlot s k first stale) where
        follows : FollowsOn slots bytes taken k
        follows = grind (arith, fits_follow, counted, stale_at, first_at)

        -- and a point out of range
        pub point_breaks : (i : ℕ) → i < count → All InRange (slot_points i rest)
            → (InRange (point_at (drop (16 * i) rest)) → ⊥) → IsPointBroken slots bytes taken k (10 + 16 * i) i
        point_breaks i there before outside =
            grind (arith, counted, follows, count_at, points_at, take-points_in, place)
          where
            place : drop (16 * i) rest ≡ drop (10 + 16 * i) (slot_at slots bytes k)
            place = cc (drop-drop (16 * i) 10 slot)

        -- what a batch holds beyond the summary
        beyond_at : points_beyond taken (batch_at slots bytes k) ≡ slot_points (cond stale 0 count) rest
        beyond_at = grind (arith, beyond_stale, stale_at, beyond_all, points_at, true≢false)

        -- else the slot is taken in
        pub taken_in : (new : Scanned) → All InRange (slot_points count rest) → new.points.items
            ≡ s.points.items ++ slot_points (cond stale 0 count) rest
            → new.lane.used ≡ k + 1 → new.stale ≡ stale → IsRead slots taken bytes (k + 1) new
        taken_in new inside points used told =
            read_open slots taken bytes k s new stale read at_slot.opened
            (grind (arith, counted, follows, points_at)) stale_at
            (cc (points, beyond_at)) used told

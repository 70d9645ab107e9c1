-- The bytes of a lane. After the first 400 bytes of a device come the gates, one byte for each lane slot. After them
-- come the lane slots, 1,034 bytes each. A lane slot holds one batch: the number of its first raw value in 8 bytes, how
-- many there are in 2 bytes, and their points.
use Rattle.std.specs.Prelude.{ℕ, zero, suc, ◌+◌, ◌*◌, min, List, [], ◌∷◌, ◌++◌, length, take, drop, flat_map}
use Rattle.std.specs.Int.{w16, w64, from_be_bytes}
use Rattle.trend_num.specs.{Point}
use Rattle.archive_file.specs.{number_bytes, point_bytes, point_at}

-- the place of the gate of slot k
abbrev pub gate_of : ℕ → ℕ
gate_of k = 400 + k

-- where slot k begins, if there are so many slots
abbrev pub place_of : ℕ → ℕ → ℕ
place_of slots k = 400 + slots + 1034 * k

-- where a lane of so many slots ends
abbrev pub lane_end : ℕ → ℕ
lane_end slots = 400 + 1035 * slots

-- Raw values that were put into the lane together: the number of the first among the tag's events, counted from 0; how
-- many there are; and their points.
pub record Batch : Type 0 where
  pub first : ℕ
  pub count : ℕ
  pub points : List Point

-- the bytes of a batch
abbrev pub batch_bytes : ℕ → List Point → List ℕ
batch_bytes first points = number_bytes 8 first
    ++ (number_bytes 2 (length points) ++ flat_map point_bytes points)

-- the n points whose bytes lie one after the other
abbrev pub slot_points : ℕ → List ℕ → List Point
slot_points zero bytes = []
slot_points (suc n) bytes = point_at bytes ∷ slot_points n (drop 16 bytes)

-- the count field of a slot
abbrev pub count_in : List ℕ → ℕ
count_in slot = from_be_bytes w16 (take 2 (drop 8 slot))

-- the batch in the bytes of a slot; it has no more points than the slot has room for
abbrev pub batch_in : List ℕ → Batch
batch_in slot = record {
  first = from_be_bytes w64 (take 8 slot);
  count = count_in slot;
  points = slot_points (min 64 (count_in slot)) (drop 10 slot);
}

-- the bytes of slot k
abbrev pub slot_at : ℕ → List ℕ → ℕ → List ℕ
slot_at slots bytes k = take 1034 (drop (place_of slots k) bytes)

-- the batch in slot k
abbrev pub batch_at : ℕ → List ℕ → ℕ → Batch
batch_at slots bytes k = batch_in (slot_at slots bytes k)

-- What is in an image is what was read of it.
use Rattle.std.proofs.Common.{◌≡◌, ℕ, ◌+◌, ◌<◌, ◌≤◌, List, length, get_or, take, drop, refl, ◌∙◌, arith, length-take, length-drop}
use Rattle.std.proofs.lemmas.Nat.{be_bytes_4, be_bytes_8}
use Rattle.std.proofs.lemmas.List.{get_or-take, get_or-drop, get_or_past}
use Rattle.archive_file.specs.{number_bytes, Spells, long_at, short_at}
use Rattle.archive_file.proofs.Points.{IsBytes}

-- the byte i of n bytes at a place
pub byte_of : (c : List ℕ) (at n i : ℕ) → i < n → get_or (take n (drop at c)) i 0 ≡ get_or c (at + i) 0
byte_of c at n i low = get_or-take n (drop at c) i 0 low ∙ get_or-drop at c i 0

-- a part of bytes has bytes
part_bytes : (c : List ℕ) (at n : ℕ) → IsBytes c → IsBytes (take n (drop at c))
part_bytes c at n bytes i = grind (arith, byte_of, get_or_past, length-take)

-- n bytes at a place, where the image is long enough
part_long : (c : List ℕ) (at n : ℕ) → at + n ≤ length c → length (take n (drop at c)) ≡ n
part_long c at n there = omega (arith, length-take n (drop at c), length-drop at c)

-- n bytes at a place are spelled there
part_spelled : (c : List ℕ) (at n : ℕ) (bytes : List ℕ) → at + n ≤ length c → bytes ≡ take n (drop at c) → Spells c at bytes (at + n)
part_spelled c at n bytes there is = grind (arith, part_long)

pub spells_short : (c : List ℕ) (at : ℕ) → IsBytes c → at + 4 ≤ length c → Spells c at (number_bytes 4 (short_at c at)) (at + 4)
spells_short c at bytes there =
    part_spelled c at 4 (number_bytes 4 (short_at c at)) there
    (be_bytes_4 (take 4 (drop at c)) (short_at c at) (part_long c at 4 there) (part_bytes c at 4 bytes) refl)

pub spells_long : (c : List ℕ) (at : ℕ) → IsBytes c → at + 8 ≤ length c → Spells c at (number_bytes 8 (long_at c at)) (at + 8)
spells_long c at bytes there =
    part_spelled c at 8 (number_bytes 8 (long_at c at)) there
    (be_bytes_8 (take 8 (drop at c)) (long_at c at) (part_long c at 8 there) (part_bytes c at 8 bytes) refl)

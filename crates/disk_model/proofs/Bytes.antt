-- Bytes written over others, and a length changed, place by place.
use Rattle.std.proofs.Common.{◌≡◌, ℕ, ◌+◌, ◌<◌, ◌≤◌, max, List, length, get_or, refl, subst, arith, length-append, length-drop, length-take}
use Rattle.std.proofs.lemmas.List.{take_at, drop_at, get_or_append_left, get_or-append_right, get_or-take, get_or-drop, ext_get_or, length-replicate}
use Rattle.disk_model.specs.{written, resized, IsTorn, IsBetween, Holds}

-- how long bytes are after others were written over them and past their end
pub length-written : (old : List ℕ) (at : ℕ) (bytes : List ℕ) → at ≤ length old → length (written old at bytes) ≡ max (length old) (at + length bytes)
length-written old at bytes le = grind (arith, length-append, length-take, length-drop)

-- a place before the range is as it was
before_written : (old : List ℕ) (at : ℕ) (bytes : List ℕ) (i : ℕ) → i < length old → i < at → get_or (written old at bytes) i 0 ≡ get_or old i 0
before_written old at bytes i there below = grind (arith, get_or_append_left, length-take, get_or-take)

-- so is a place after it
after_written : (old : List ℕ) (at : ℕ) (bytes : List ℕ) (i : ℕ) → i < length old → at + length bytes ≤ i → get_or (written old at bytes) i 0 ≡ get_or old i 0
after_written old at bytes i there above = grind (arith, length-take, get_or-append_right, get_or-drop)

-- a write that is done whole is one that may be torn
pub torn_written : (old : List ℕ) (at : ℕ) (bytes : List ℕ) → IsTorn at (length bytes) old (written old at bytes)
torn_written old at bytes = grind (arith, length-take, length-drop, length-append, before_written, after_written)

-- nothing written is a write that may be torn
pub torn_self : (at n : ℕ) (c : List ℕ) → IsTorn at n c c
torn_self at n c = record { no_shorter = omega arith; no_longer = omega arith; outside = λ i there out. refl }

-- other bytes of the same number
pub torn_as : (old : List ℕ) (at n : ℕ) (bytes : List ℕ) → length bytes ≡ n → IsTorn at n old (written old at bytes)
torn_as old at n bytes is = subst (λ m. IsTorn at m old (written old at bytes)) is (torn_written old at bytes)

-- a change of the length that is done whole is one that may be cut short
pub between_resized : (old : List ℕ) (len : ℕ) → IsBetween len old (resized old len)
between_resized old len = grind (arith, get_or_append_left, length-take, get_or-take, length-append, length-replicate)

-- the length stays
pub between_self : (len : ℕ) (c : List ℕ) → IsBetween len c c
between_self len c = record { no_shorter = omega arith; no_longer = omega arith; both = λ i there reached. refl }

-- what was written is there
pub holds_written : (old : List ℕ) (at : ℕ) (bytes : List ℕ) → at ≤ length old → Holds at bytes (written old at bytes)
holds_written old at bytes le = grind (arith, length-take, drop_at, take_at)

-- bytes that are at a place of one list are there in another that has the same bytes there
pub holds_same : (at : ℕ) (bytes c d : List ℕ) → at + length bytes ≤ length c → at + length bytes ≤ length d
    → ((i : ℕ) → at ≤ i → i < at + length bytes → get_or c i 0 ≡ get_or d i 0) → Holds at bytes d → Holds at bytes c
holds_same at bytes c d c_long d_long same holds =
    grind (arith, length-take, length-drop, same_from, get_or-take, get_or-drop)
  where
    same_from : (xs ys : List ℕ) → length xs ≡ length ys → ((k : ℕ) → k < length xs → get_or xs k 0 ≡ get_or ys k 0) → xs ≡ ys
    same_from xs ys size each = ext_get_or 0 xs ys size each

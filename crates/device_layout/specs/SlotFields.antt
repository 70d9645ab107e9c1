-- The fields of a summary slot of 128 bytes, and which of them is the first to break the layout. First come the forms
-- of all parts, then the points that are there, then the numbers of the tuning if it is there.
use Rattle.std.specs.Prelude.{ℕ, ◌-◌, ◌/◌, ◌%◌, ◌&&◌, ◌||◌, not, Bool, List, [], ◌∷◌, ◌++◌, take, drop, replicate, slice_index, nat_le, nat_eq, if◌then◌else◌, unsigned_abs, Option}
use Rattle.std.specs.List.{list_all}
use Rattle.std.specs.Int.{w64, from_be_bytes}
use Rattle.trend_num.specs.{Point, last_time, largest_value}
use Rattle.archive_file.specs.{point_at, BreaksFirst, Field}

-- a bit of the flags: held 1, pending 2, hinge 4, doors 8, tuning 16
abbrev pub has_flag : List ℕ → ℕ → Bool
has_flag b bit = nat_eq (slice_index b 12 / bit % 2) 1

-- held and hinge are both there or both absent; a pending value and doors are there only together with held; there are
-- no other bits
abbrev pub are_flags_ok : List ℕ → Bool
are_flags_ok b =
    nat_le (slice_index b 12) 31
    && (if has_flag b 1 then has_flag b 4 else not (has_flag b 4 || has_flag b 2 || has_flag b 8))

-- n bytes from a place on are zeros
abbrev pub are_zeros : List ℕ → ℕ → ℕ → Bool
are_zeros b at n = list_all (λ x. nat_eq x 0) (take n (drop at b))

-- a point in range
abbrev pub is_in_range : Point → Bool
is_in_range p = nat_le p.t last_time && nat_le (unsigned_abs p.v) largest_value

-- the number of n bytes at a place, at most 8
abbrev pub short_number : List ℕ → ℕ → ℕ → ℕ
short_number b at n = from_be_bytes w64 (replicate (8 - n) 0 ++ take n (drop at b))

-- n bytes of a part with this flag: they are zeros if it is absent
abbrev pub form_field : List ℕ → ℕ → ℕ → ℕ → Field
form_field b bit at n = record { place = at; size = n; is_kept = has_flag b bit || are_zeros b at n }

-- a point with this flag: it is in range if it is there
abbrev pub point_field : List ℕ → ℕ → ℕ → Field
point_field b bit at =
    record { place = at; size = 16; is_kept = not (has_flag b bit) || is_in_range (point_at (drop at b)) }

-- n bytes of a tuning: their number is at most `most` if it is there
abbrev pub tuning_field : List ℕ → ℕ → ℕ → ℕ → Field
tuning_field b at n most =
    record { place = at; size = n; is_kept = not (has_flag b 16) || nat_le (short_number b at n) most }

-- the fields: the flags, three zeros and the forms of the five points and the tuning, then the points, then the numbers
-- of the tuning
abbrev pub summary_fields : List ℕ → List Field
summary_fields b =
    record { place = 12; size = 1; is_kept = are_flags_ok b }
    ∷ record { place = 13; size = 3; is_kept = are_zeros b 13 3 }
    ∷ form_field b 1 16 16
    ∷ form_field b 2 32 16
    ∷ form_field b 4 48 16
    ∷ form_field b 8 64 16
    ∷ form_field b 8 80 16
    ∷ form_field b 16 96 32
    ∷ point_field b 1 16
    ∷ point_field b 2 32
    ∷ point_field b 4 48
    ∷ point_field b 8 64
    ∷ point_field b 8 80
    ∷ tuning_field b 96 7 largest_value
    ∷ tuning_field b 103 6 last_time
    ∷ tuning_field b 109 7 largest_value
    ∷ tuning_field b 116 6 last_time
    ∷ tuning_field b 122 6 last_time
    ∷ []

-- the place and the byte of the first field that breaks the layout
abbrev pub IsSlotBroken : List ℕ → ℕ → Option ℕ → Type 0
IsSlotBroken b at byte = BreaksFirst b (summary_fields b) at byte

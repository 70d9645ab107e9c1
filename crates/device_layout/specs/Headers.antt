-- The header of a tag's device, its first 128 bytes. It begins with the layout's gate. Then come four letters, the
-- length of the tag's name and the name, and the five numbers of the tuning with which the tag was made. Then come the
-- number of lane slots, and whether it is a step tag. The rest is zeros.
use Rattle.std.specs.Prelude.{◌≡◌, ℕ, ◌+◌, ◌-◌, ◌&&◌, Bool, List, [], ◌++◌, ◌∷◌, All, length, take, drop, map, replicate, slice_index, codes, nat_le, nat_lt, nat_eq, if◌then◌else◌, Option}
use Rattle.std.specs.List.{range_with_len}
use Rattle.trend_num.specs.{Tuning, TagDef, is_name_byte, last_time, largest_value}
use Rattle.archive_file.specs.{number_bytes, Keeps, BreaksFirst, long_at, short_at, letter_field, Field}

-- the letters after the gate
abbrev pub letters : List ℕ
letters = codes "PHT1"

-- the most lane slots
abbrev pub most_slots : ℕ
most_slots = 65536

-- ---- the content of a header

abbrev pub name_in : List ℕ → List ℕ
name_in h = take (slice_index h 5) (drop 6 h)

abbrev pub tuning_in : List ℕ → Tuning
tuning_in h = record {
  exc_dev = long_at h 70;
  exc_max = long_at h 78;
  comp_dev = long_at h 86;
  comp_min = long_at h 94;
  comp_max = long_at h 102;
}

abbrev pub slots_in : List ℕ → ℕ
slots_in h = short_at h 110

abbrev pub is_step_in : List ℕ → Bool
is_step_in h = nat_eq (slice_index h 114) 1

-- the definition of the tag, with the tuning with which it was made
abbrev pub def_in : List ℕ → TagDef
def_in h = record { name = name_in h; tuning = tuning_in h; step = is_step_in h }

-- ---- which bytes are a header

-- a field of one byte
abbrev pub byte_field : ℕ → Bool → Field
byte_field at kept = record { place = at; size = 1; is_kept = kept }

-- n fields of one byte each from a place on, with a test of each place
abbrev pub byte_fields : (ℕ → Bool) → ℕ → ℕ → List Field
byte_fields test at n = map (λ i. byte_field (at + i) (test (at + i))) (range_with_len 0 n)

-- a number of 8 bytes that is at most this
abbrev pub number_field : List ℕ → ℕ → ℕ → Field
number_field h at most = record { place = at; size = 8; is_kept = nat_le (long_at h at) most }

-- the letters, and the length of the name
abbrev pub front_fields : List ℕ → List Field
front_fields h =
    letter_field h 1 (slice_index letters 0)
    ∷ letter_field h 2 (slice_index letters 1)
    ∷ letter_field h 3 (slice_index letters 2)
    ∷ letter_field h 4 (slice_index letters 3)
    ∷ byte_field 5 (nat_le 1 (slice_index h 5) && nat_le (slice_index h 5) 64)
    ∷ []

-- a name may have the byte at a place; after the name the byte is zero
abbrev pub is_name_at : List ℕ → ℕ → Bool
is_name_at h at =
    if nat_lt at (6 + slice_index h 5) then is_name_byte (slice_index h at) else nat_eq (slice_index h at) 0

-- the 64 bytes of the name and of the zeros after it
abbrev pub name_fields : List ℕ → List Field
name_fields h = byte_fields (is_name_at h) 6 64

-- the tuning, the number of lane slots, and the step flag
abbrev pub number_fields : List ℕ → List Field
number_fields h =
    number_field h 70 largest_value
    ∷ number_field h 78 last_time
    ∷ number_field h 86 largest_value
    ∷ number_field h 94 last_time
    ∷ number_field h 102 last_time
    ∷ record { place = 110; size = 4; is_kept = nat_le 1 (slots_in h) && nat_le (slots_in h) most_slots }
    ∷ byte_field 114 (nat_le (slice_index h 114) 1)
    ∷ []

-- the zeros at the end
abbrev pub zero_fields : List ℕ → List Field
zero_fields h = byte_fields (λ at. nat_eq (slice_index h at) 0) 115 13

-- all fields
abbrev pub header_fields : List ℕ → List Field
header_fields h = front_fields h ++ (name_fields h ++ (number_fields h ++ zero_fields h))

-- each field keeps the layout
pub record IsHeader (h : List ℕ) : Type 0 where
  pub size : length h ≡ 128
  pub fields : All (Keeps h) (header_fields h)

-- the place and the byte of the first field that breaks it
abbrev pub IsHeaderBroken : List ℕ → ℕ → Option ℕ → Type 0
IsHeaderBroken h at byte = BreaksFirst h (header_fields h) at byte

-- ---- the header of a device that is made

-- the five numbers of a tuning
abbrev pub tuning_image : Tuning → List ℕ
tuning_image t = number_bytes 8 t.exc_dev ++ (number_bytes 8 t.exc_max
    ++ (number_bytes 8 t.comp_dev ++ (number_bytes 8 t.comp_min ++ number_bytes 8 t.comp_max)))

-- the header after the gate
abbrev pub header_image : TagDef → ℕ → List ℕ
header_image def slots =
    letters ++ (length def.name ∷ (def.name ++ (replicate (64 - length def.name) 0
    ++ (tuning_image def.tuning ++ (number_bytes 4 slots ++ ((if def.step then 1 else 0) ∷ replicate 13 0))))))

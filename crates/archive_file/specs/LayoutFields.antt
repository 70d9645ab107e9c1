-- Fields of an image, one after the other, and the first of them that breaks its rule.
use Rattle.std.specs.Prelude.{◌≡◌, ◌⊎◌, ℕ, ◌+◌, ◌<◌, ◌≤◌, true, false, List, ◌∷◌, ◌++◌, All, length, take, drop, slice_index, Option, None, Some}
use Rattle.std.specs.Int.{w32, w64, from_be_bytes}
use Rattle.archive_file.specs.declared.layout_field.Field.{Field}

-- the number of the 8 bytes at a place, and that of the 4 bytes; bytes that are not there count as zeros
abbrev pub long_at : List ℕ → ℕ → ℕ
long_at c at = from_be_bytes w64 (take 8 (drop at c))

abbrev pub short_at : List ℕ → ℕ → ℕ
short_at c at = from_be_bytes w32 (take 4 (drop at c))

-- an image has these bytes from the place `at` up to the place `end`
pub record Spells (c : List ℕ) (at : ℕ) (bytes : List ℕ) (end : ℕ) : Type 0 where
  pub spelled : take (length bytes) (drop at c) ≡ bytes
  pub ends : end ≡ at + length bytes
  pub within : end ≤ length c

-- a field is there, and keeps its rule
pub record Keeps (c : List ℕ) (f : Field) : Type 0 where
  pub there : f.place + f.size ≤ length c
  pub kept : f.is_kept ≡ true

-- the image ends before the field does
pub record EndsIn (c : List ℕ) (f : Field) (a : ℕ) (byte : Option ℕ) : Type 0 where
  pub short : length c < f.place + f.size
  pub place : a ≡ length c
  pub none_there : byte ≡ None

-- the field is there and breaks its rule; the place is that of its first byte
pub record IsFieldBroken (c : List ℕ) (f : Field) (a : ℕ) (byte : Option ℕ) : Type 0 where
  pub there : f.place + f.size ≤ length c
  pub broken : f.is_kept ≡ false
  pub place : a ≡ f.place
  pub byte_there : byte ≡ Some (slice_index c a)

-- the place and the byte that are reported for a field that is not kept
abbrev pub Breaks : List ℕ → Field → ℕ → Option ℕ → Type 0
Breaks c f a byte = EndsIn c f a byte ⊎ IsFieldBroken c f a byte

-- the first of these fields that is not kept
pub record BreaksFirst (c : List ℕ) (fields : List Field) (a : ℕ) (byte : Option ℕ) : Type 0 where
  pub before : List Field
  pub field : Field
  pub behind : List Field
  pub are : fields ≡ before ++ field ∷ behind
  pub kept : All (Keeps c) before
  pub breaks : Breaks c field a byte

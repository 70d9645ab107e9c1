-- Which bytes are a name.
use Rattle.std.specs.Prelude.{◌≡◌, ℕ, ◌-◌, ◌<◌, ◌≤◌, Bool, true, ◌&&◌, ◌||◌, List, ◌++◌, length, take, replicate, nat_eq, nat_le}
use Rattle.std.specs.List.{list_all}
use Rattle.std.proofs.lemmas.List.{length-take-le}

-- a letter, a digit, `_`, `.` or `-`
abbrev pub is_name_byte : ℕ → Bool
is_name_byte b = (nat_le 65 b && nat_le b 90) || (nat_le 97 b && nat_le b 122) || (nat_le 48 b && nat_le b 57)
    || nat_eq b 95 || nat_eq b 46 || nat_eq b 45

-- 1 to 64 such bytes
pub record IsName (bytes : List ℕ) : Type 0 where
  pub not_empty : 0 < length bytes
  pub fits : length bytes ≤ 64
  pub spelled : list_all is_name_byte bytes ≡ true

-- the first `len` of 64 bytes are a name, and the others are zeros
pub record IsNameStored (len : ℕ) (bytes : List ℕ) : Type 0 where
  pub name : IsName (take len bytes)
  pub in_array : len ≤ length bytes
  pub zeros : take len bytes ++ replicate (64 - len) 0 ≡ bytes

-- a name that is stored with the length `len` has `len` bytes
pub stored_len : (len : ℕ) (bytes : List ℕ) → IsNameStored len bytes → length (take len bytes) ≡ len
stored_len len bytes stored = length-take-le len bytes stored.in_array

-- Which bytes are a numeral, and the number that they spell.
use Rattle.std.specs.Prelude.{ℕ, ◌+◌, ◌-◌, ◌*◌, ℤ, pos, neg_ℤ, ◌&&◌, Bool, List, [], ◌∷◌, length, Option, None, Some, nat_eq, nat_le, if◌then◌else◌}
use Rattle.std.specs.Char.{is_ascii_digit}
use Rattle.std.specs.List.{fold, list_all}

-- the number that digits spell
abbrev pub digits_value : List ℕ → ℕ
digits_value digits = fold (λ n b. n * 10 + (b - 48)) 0 digits

-- 1 to 20 digits
abbrev pub are_digits : List ℕ → Bool
are_digits bytes = nat_le 1 (length bytes) && nat_le (length bytes) 20 && list_all is_ascii_digit bytes

-- the number that 1 to 20 digits spell
abbrev pub unsigned_numeral : List ℕ → Option ℕ
unsigned_numeral bytes = if are_digits bytes then Some (digits_value bytes) else None

-- that number with its sign
abbrev pub signed_by : (ℕ → ℤ) → Option ℕ → Option ℤ
signed_by sign None = None
signed_by sign (Some n) = Some (sign n)

-- a numeral: an optional `-`, and 1 to 20 digits
abbrev pub numeral : List ℕ → Option ℤ
numeral [] = None
numeral (b ∷ bytes) =
    if nat_eq b 45 then signed_by (λ n. neg_ℤ (pos n)) (unsigned_numeral bytes)
    else signed_by pos (unsigned_numeral (b ∷ bytes))

-- the number of a numeral that is at most `most` and not negative
abbrev pub natural_upto : ℕ → ℤ → Option ℕ
natural_upto most (pos n) = if nat_le n most then Some n else None
natural_upto most n = None

-- The bytes of a name are text.
use Rattle.std.proofs.Common.{◌≡◌, ℕ, zero, suc, ◌<◌, Bool, true, false, ◌&&◌, List, [], ◌∷◌, get_or, arith, refl, IsUtf8}
use Rattle.std.proofs.lemmas.Bool.Decides.{nat_tests}
use Rattle.std.proofs.lemmas.Str.{IsUtf8-from_ascii}
use Rattle.std.specs.List.{list_all}
use Rattle.trend_num.specs.{IsName, is_name_byte}

-- the left of two tests
pub both_left : (b c : Bool) → (b && c) ≡ true → b ≡ true
both_left true c e = refl
both_left false c e = e

-- the right of two tests
pub both_right : (b c : Bool) → (b && c) ≡ true → c ≡ true
both_right true c e = e
both_right false c e = cc e

-- a byte of a name is ASCII
pub byte_small : (b : ℕ) → is_name_byte b ≡ true → b < 128
byte_small b test = grind (arith, nat_tests)

-- so is each byte of one
bytes_small : (bytes : List ℕ) (i : ℕ) → list_all is_name_byte bytes ≡ true → get_or bytes i 0 < 128
bytes_small [] i spelled = omega arith
bytes_small (b ∷ bytes) zero spelled =
    byte_small b (both_left (is_name_byte b) (list_all is_name_byte bytes) spelled)
bytes_small (b ∷ bytes) (suc i) spelled =
    bytes_small bytes i (both_right (is_name_byte b) (list_all is_name_byte bytes) spelled)

-- a name is text
pub name_is_text : (name : List ℕ) → IsName name → IsUtf8 name
name_is_text name is = IsUtf8-from_ascii name (λ i. bytes_small name i is.spelled)

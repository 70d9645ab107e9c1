-- The bytes of a name.
use Rattle.std.proofs.Common.{◌≡◌, ℕ, ◌+◌, ◌<◌, true, false, List, [], ◌∷◌, ◌++◌, length, take, get_or, arith, sym, ap, ◌∙◌, append_assoc, le-leb}
use Rattle.std.proofs.lemmas.Bool.{false≢true}
use Rattle.std.proofs.lemmas.Bool.Decides.{nat_tests}
use Rattle.std.proofs.lemmas.List.{take_more}
use Rattle.std.proofs.lemmas.List.Folds.{list_all_at}
use Rattle.std.proofs.lemmas.Str.{encode_ascii}
use Rattle.std.specs.Bool.{Decides}
use Rattle.std.specs.List.{list_all}
use Rattle.trend_num.specs.{IsName, is_name_byte}
use Rattle.trend_num.proofs.NameText.{both_left, both_right, byte_small}
use Rattle.calc_parser.specs.{is_name}
use lib.Utf8.{encode}

-- each byte of a name is one
pub name_byte_at : (name : List ℕ) (i : ℕ) → list_all is_name_byte name ≡ true → i < length name
    → is_name_byte (get_or name i 0) ≡ true
name_byte_at name i all below = grind (arith, false≢true, list_all_at)

-- one more byte of a name is written as one character
pub one_more_byte : (base name before after : List ℕ) (i c : ℕ) → list_all is_name_byte name ≡ true
    → i < length name
    → before ≡ base ++ take i name → c ≡ get_or name i 0 → after ≡ before ++ encode c
    → after ≡ base ++ take (i + 1) name
one_more_byte base name before after i c all below so_far byte written =
    let small : c < 128 = omega (arith, byte_small (get_or name i 0) (name_byte_at name i all below)) in
    written
    ∙ ap (λ l. before ++ l) (encode_ascii c small ∙ ap (λ b. b ∷ []) byte)
    ∙ ap (λ l. l ++ get_or name i 0 ∷ []) so_far
    ∙ append_assoc base (take i name) (get_or name i 0 ∷ [])
    ∙ ap (λ l. base ++ l) (sym (take_more name i 0 below))

-- the test decides which bytes are a name
pub name_decides : (bytes : List ℕ) → Decides (is_name bytes) (IsName bytes)
name_decides bytes = grind (arith, both_left, both_right, nat_tests, le-leb)

-- and which are none
pub no_name : (bytes : List ℕ) → (IsName bytes → ⊥) → is_name bytes ≡ false
no_name bytes none = grind (arith, name_decides)

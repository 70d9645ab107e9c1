-- The head of a layout with a text: what is read of it, what is written, and what keeps it.
use Rattle.std.proofs.Common.{◌≡◌, ◌≢◌, ℕ, ◌+◌, ◌^◌, ◌<◌, ◌≤◌, true, All, List, [], ◌∷◌, ◌++◌, length, get_or, take, drop, nat_eq, refl, sym, ◌∙◌, ap, subst, arith, lit<, length-append, length-take, length-drop, eq-eqb}
use Rattle.std.specs.Int.{w32, from_be_bytes}
use Rattle.std.proofs.lemmas.Nat.{from_be_bytes-to_be_bytes_4}
use Rattle.disk_model.specs.{Holds, IsOpen, open_byte}
use Rattle.archive_file.specs.{number_bytes, Keeps, short_at, HasHead, IsEmpty, IsOfText, blocks_at, head_fields, head_image, letter_field, text_in}
use Rattle.archive_file.proofs.FieldLaws.{all_six, field_of}
use Rattle.archive_file.proofs.PlacedBytes.{SameFront, holds_byte, holds_left, holds_right, holds_there, part_same}

-- ---- a head that is there

-- the head with its text and the gate after it is there
pub head_long : (letters c : List ℕ) → HasHead letters c → 9 + (short_at c 5 + 1) ≤ length c
head_long letters c head = (head.fields 5 (field_of 0 0 true) (lit< tt)).there

-- the blocks begin after the text
pub text_place : (letters text c : List ℕ) → IsOfText letters text c → blocks_at (length text) ≡ 9 + short_at c 5
text_place letters text c is =
    omega (arith, sym (ap length is.same), length-take (short_at c 5) (drop 9 c), length-drop 9 c, head_long letters c is.head)

-- ---- a head that was written

-- what is after the letters
abbrev behind_letters : List ℕ → List ℕ
behind_letters text = number_bytes 4 (length text) ++ (text ++ 0 ∷ [])

-- the head with a text is a layout of it without blocks
pub head_is : (letters text c : List ℕ) → length letters ≡ 4 → length text < 2 ^ 32 → IsOpen 0 c → Holds 1 (head_image letters text) c
    → IsEmpty letters text c
head_is letters text c four small opened holds = grind (arith, long, fields, same, closed)
  where
    size : length (head_image letters text) ≡ 9 + length text
    size = omega (arith, four, length-append letters (behind_letters text), length-append text (0 ∷ []))

    long : 10 + length text ≤ length c
    long = omega (arith, holds_there c 1 (head_image letters text) holds (omega (arith, size)), size)

    five : 1 + length letters ≡ 5
    five = omega (arith, four)

    rest : Holds 5 (behind_letters text) c
    rest = subst (λ at. Holds at (behind_letters text) c) five (holds_right c 1 letters (behind_letters text) holds)

    number : short_at c 5 ≡ length text
    number = grind (arith, holds_left, rest, from_be_bytes-to_be_bytes_4)

    behind : Holds 9 (text ++ 0 ∷ []) c
    behind = holds_right c 5 (number_bytes 4 (length text)) (text ++ 0 ∷ []) rest

    same : text_in c ≡ text
    same = ap (λ n. take n (drop 9 c)) number ∙ holds_left c 9 text (0 ∷ []) behind

    closed : get_or c (9 + length text) 0 ≢ open_byte
    closed e =
        let place : 9 + length text ≡ 9 + length text + 0 = omega arith in
        let zero_there : get_or c (9 + length text) 0 ≡ 0
        = ap (λ n. get_or c n 0) place ∙ holds_byte c (9 + length text) (0 ∷ []) 0 (holds_right c 9 text (0 ∷ []) behind) (lit< tt) in
        absurd (omega (arith, e, zero_there))

    letter : (i : ℕ) → i < 4 → get_or c (1 + i) 0 ≡ get_or letters i 0
    letter i low = holds_byte c 1 letters i (holds_left c 1 letters (behind_letters text) holds) (omega (arith, low, four))

    kept : (at value : ℕ) → at < 5 → get_or c at 0 ≡ value → Keeps c (letter_field c at value)
    kept at value low is = record { there = omega (arith, long); kept = eq-eqb _ _ is }

    size_kept : Keeps c (field_of 5 4 true)
    size_kept = record { there = omega (arith, long); kept = refl }

    text_kept : Keeps c (field_of 9 (short_at c 5 + 1) true)
    text_kept = record { there = omega (arith, long, number); kept = refl }

    fields : All (Keeps c) (head_fields letters c)
    fields = grind (arith, all_six, field_of, kept, letter, size_kept, text_kept)

-- ---- a head in front of what is written

-- the head of a layout lies in front of a gate of blocks
pub head_same : (letters text d c : List ℕ) (n : ℕ) → IsOfText letters text d → SameFront n d c → blocks_at (length text) ≤ n → n < length c
    → IsOfText letters text c
head_same letters text d c n is front far long = record {
  head = grind (arith, long, byte, fields);
  same = part_text ∙ is.same;
}
  where
    place : blocks_at (length text) ≡ 9 + short_at d 5
    place = text_place letters text d is

    byte : (i : ℕ) → i < n → get_or c i 0 ≡ get_or d i 0
    byte i low = front.same i low

    size : short_at c 5 ≡ short_at d 5
    size = ap (from_be_bytes w32) (part_same n 5 4 d c front (omega (arith, far)))

    part_text : text_in c ≡ text_in d
    part_text = ap (λ k. take k (drop 9 c)) size ∙ part_same n 9 (short_at d 5) d c front (omega (arith, far, place))

    was : (i : ℕ) → i < 6 → Keeps d (get_or (head_fields letters d) i (field_of 0 0 true))
    was i low = is.head.fields i (field_of 0 0 true) low

    letter : (at value : ℕ) → at < 5 → Keeps d (letter_field d at value) → Keeps c (letter_field c at value)
    letter at value low keeps =
        record { there = omega (arith, long, far); kept = ap (λ m. nat_eq m value) (byte at (omega (arith, low, far))) ∙ keeps.kept }

    fields : All (Keeps c) (head_fields letters c)
    fields =
        all_six (Keeps c) (letter_field c 1 (get_or letters 0 0)) (letter_field c 2 (get_or letters 1 0)) (letter_field c 3 (get_or letters 2 0))
        (letter_field c 4 (get_or letters 3 0)) (field_of 5 4 true) (field_of 9 (short_at c 5 + 1) true)
        (letter 1 (get_or letters 0 0) (lit< tt) (was 0 (lit< tt))) (letter 2 (get_or letters 1 0) (lit< tt) (was 1 (lit< tt)))
        (letter 3 (get_or letters 2 0) (lit< tt) (was 2 (lit< tt))) (letter 4 (get_or letters 3 0) (lit< tt) (was 3 (lit< tt)))
        (record { there = omega (arith, long, far); kept = refl })
        (record { there = omega (arith, long, far, place, size); kept = refl })

-- Lemmas on a plain line, which a text begins with.
use Rattle.std.proofs.Common.{◌≡◌, ◌⊎◌, inl, inr, ℕ, zero, suc, ◌+◌, ◌-◌, ◌<◌, ◌≤◌, ℤ, pos, neg_ℤ, true, false, List, [], ◌∷◌, ◌++◌, length, get_or, take, drop, nat_eq, unsigned_abs, Some, Result, Ok, All, arith, refl, sym, ap, ◌∙◌, subst}
use Rattle.std.proofs.Common.{append_assoc, add-one, length-append, length-drop, le-leb}
use Rattle.std.proofs.lemmas.Bool.Decides.{nat_tests}
use Rattle.std.proofs.lemmas.List.{take-append-drop, drop-drop, length-take-le, take_at, get_or_at, drop_more}
use Rattle.std.proofs.lemmas.List.Elements.{All-from_get_or, All-weaker, All-append, All-cons, All-nil}
use Rattle.std.proofs.lemmas.List.Splits.{slice_split_at, slice_split_none}
use Rattle.std.proofs.Math.Seq.{drop-cons}
use Rattle.std.specs.Char.{is_ascii_digit}
use Rattle.std.specs.List.{list_all, slice_split}
use Rattle.std.specs.Str.Lines.{strip_carriage_return}
use Rattle.trend_num.specs.{Point, Reason, numeral, unsigned_numeral, digits_value, last_time, largest_value}
use Rattle.trend_num.proofs.Numbers.{digit_at, digit_code}
use Rattle.point_text.specs.{point_read, point_of_fields, point_of_line, EndsAt, HasNoFeed, IsField, IsFirstPoint}
use Rattle.point_text.proofs.Split.{rest_whole}

-- 1 to 20 digits, which spell n
pub record AreDigits (ds : List ℕ) (n : ℕ) : Type 0 where
  pub some : 1 ≤ length ds
  pub few : length ds ≤ 20
  pub all : list_all is_ascii_digit ds ≡ true
  pub value : n ≡ digits_value ds

-- the text is the digits, the byte and the rest
field_cut : (text : List ℕ) (at end byte n : ℕ) → IsField text at end byte n → drop at text ≡ take (end - at) (drop at text) ++ byte ∷ drop (end + 1) text
field_cut text at end byte n f =
    let back : at + (end - at) ≡ end = omega (arith, f.some) in
    let here : drop (end - at) (drop at text) ≡ get_or text end 0 ∷ drop (end + 1) text =
    drop-drop (end - at) at text ∙ ap (λ k. drop k text) back ∙ rw (add-one, drop-cons text end 0 f.within) in
    sym (take-append-drop (end - at) (drop at text)) ∙ ap (λ l. take (end - at) (drop at text) ++ l) (here ∙ ap (λ b. b ∷ drop (end + 1) text) f.after)

field_digits : (text : List ℕ) (at end byte n : ℕ) → IsField text at end byte n → AreDigits (take (end - at) (drop at text)) n
field_digits text at end byte n f = grind (arith, length-take-le, length-drop)

-- digits are past the comma
past_comma : (ds : List ℕ) (n : ℕ) → AreDigits ds n → All (λ b. 44 < b) ds
past_comma ds n are = All-from_get_or (λ b. 44 < b) ds 0 (λ i below. let code = digit_code (get_or ds i 0) (digit_at ds i are.all below) in omega arith)

unsigned_is : (ds : List ℕ) (n : ℕ) → AreDigits ds n → unsigned_numeral ds ≡ Some n
unsigned_is ds n are = rw (le-leb 1 (length ds) are.some, le-leb (length ds) 20 are.few, are.all) (ap Some (sym are.value))

numeral_is : (ds : List ℕ) (n : ℕ) → AreDigits ds n → numeral ds ≡ Some (pos n)
numeral_is [] n are = absurd (omega (arith, are.some))
numeral_is (d ∷ ds) n are =
    let code = digit_code d (digit_at (d ∷ ds) 0 are.all (omega (arith, are.some))) in
    let other : nat_eq d 45 ≡ false = grind (arith, nat_tests) in
    rw (other, unsigned_is (d ∷ ds) n are)

negative_is : (ds : List ℕ) (n : ℕ) → AreDigits ds n → numeral (45 ∷ ds) ≡ Some (neg_ℤ (pos n))
negative_is ds n are = rw (unsigned_is ds n are)

-- no carriage return is stripped where there is none
no_return : (line : List ℕ) → 0 < length line → All (λ b. 44 ≤ b) line → strip_carriage_return line ≡ line
no_return line some high = grind (arith, nat_tests)

-- nor is there a line feed
no_feed : (line : List ℕ) → All (λ b. 44 ≤ b) line → HasNoFeed line
no_feed line high = All-weaker (λ b. 44 ≤ b) (λ b. nat_eq b 10 ≡ false) (λ b h. grind (arith, nat_tests)) line high

-- a carriage return is stripped where it is the last byte
one_return : (line : List ℕ) → strip_carriage_return (line ++ 13 ∷ []) ≡ line
one_return line = grind (arith, length-append, get_or_at, take_at)

-- a line of these bytes, and what ends it
ended_point : (line after tail : List ℕ) (read : Result Point Reason) → 0 < length line → All (λ b. 44 ≤ b) line
    → (tail ≡ 10 ∷ after) ⊎ (tail ≡ 13 ∷ 10 ∷ after) → read ≡ point_of_line line → IsFirstPoint (line ++ tail) after read
ended_point line after tail read some high (inl feed) reads = record {
  line = line;
  cut = ap (λ l. line ++ l) feed;
  one = no_feed line high;
  reads = reads ∙ ap point_of_line (sym (no_return line some high));
}
ended_point line after tail read some high (inr feed) reads = record {
  line = line ++ 13 ∷ [];
  cut = ap (λ l. line ++ l) feed ∙ sym (append_assoc line (13 ∷ []) (10 ∷ after));
  one = All-append (λ b. nat_eq b 10 ≡ false) line (13 ∷ []) (no_feed line high)
      (All-cons (λ b. nat_eq b 10 ≡ false) 13 [] refl (All-nil (λ b. nat_eq b 10 ≡ false)));
  reads = reads ∙ ap point_of_line (sym (one_return line));
}

point_is : (t : ℕ) (v : ℤ) → t ≤ last_time → unsigned_abs v ≤ largest_value → point_read (Some (pos t)) (Some v) ≡ Ok (record { t = t; v = v })
point_is t v time value = rw (le-leb t last_time time, le-leb (unsigned_abs v) largest_value value)

-- the point of two fields
fields_read : (time value : List ℕ) (t : ℕ) (v : ℤ) → All (λ b. 44 < b) time → All (λ b. 44 < b) value → numeral time ≡ Some (pos t) → numeral value ≡ Some v
    → t ≤ last_time → unsigned_abs v ≤ largest_value → point_of_line (time ++ 44 ∷ value) ≡ Ok (record { t = t; v = v })
fields_read time value t v T V read_t read_v in_time in_value =
    let other : (b : ℕ) → 44 < b → nat_eq b 44 ≡ false = λ b h. grind (arith, nat_tests) in
    let apart : All (λ b. nat_eq b 44 ≡ false) time = All-weaker (λ b. 44 < b) (λ b. nat_eq b 44 ≡ false) other time T in
    let whole : All (λ b. nat_eq b 44 ≡ false) value = All-weaker (λ b. 44 < b) (λ b. nat_eq b 44 ≡ false) other value V in
    let two : slice_split (λ b. nat_eq b 44) (time ++ 44 ∷ value) ≡ time ∷ value ∷ [] =
    slice_split_at (λ b. nat_eq b 44) time 44 value apart refl ∙ ap (λ l. time ∷ l) (slice_split_none (λ b. nat_eq b 44) value whole) in
    ap point_of_fields two ∙ ap (λ r. point_read r (numeral value)) read_t ∙ ap (λ r. point_read (Some (pos t)) r) read_v ∙ point_is t v in_time in_value

plain_point : (time value after tail : List ℕ) (t : ℕ) (v : ℤ) → All (λ b. 44 < b) time → All (λ b. 44 < b) value → numeral time ≡ Some (pos t)
    → numeral value ≡ Some v → t ≤ last_time → unsigned_abs v ≤ largest_value → (tail ≡ 10 ∷ after) ⊎ (tail ≡ 13 ∷ 10 ∷ after)
    → IsFirstPoint (time ++ 44 ∷ (value ++ tail)) after (Ok (record { t = t; v = v }))
plain_point time value after tail t v T V read_t read_v in_time in_value ends =
    let line : List ℕ = time ++ 44 ∷ value in
    let low : (b : ℕ) → 44 < b → 44 ≤ b = λ b h. omega arith in
    let high : All (λ b. 44 ≤ b) line =
    All-append (λ b. 44 ≤ b) time (44 ∷ value) (All-weaker (λ b. 44 < b) (λ b. 44 ≤ b) low time T)
    (All-cons (λ b. 44 ≤ b) 44 value (omega arith) (All-weaker (λ b. 44 < b) (λ b. 44 ≤ b) low value V)) in
    let some : 0 < length line = omega (arith, length-append time (44 ∷ value)) in
    subst (λ l. IsFirstPoint l after (Ok (record { t = t; v = v }))) (append_assoc time (44 ∷ value) tail)
    (ended_point line after tail (Ok (record { t = t; v = v })) some high ends
    (sym (fields_read time value t v T V read_t read_v in_time in_value)))

-- what is left after it
abbrev pub after_feed : List ℕ → ℕ → List ℕ
after_feed text feed = take (length text - (feed + 1)) (drop (feed + 1) text)

-- so the line ends there
ends_line : (text : List ℕ) (end byte feed : ℕ) → byte ≡ get_or text end 0 → EndsAt text end feed
    → (byte ∷ drop (end + 1) text ≡ 10 ∷ after_feed text feed) ⊎ (byte ∷ drop (end + 1) text ≡ 13 ∷ 10 ∷ after_feed text feed)
ends_line text end byte feed here ends = grind (arith, rest_whole, drop_more)

unsigned_abs-neg_ℤ : (n : ℕ) → unsigned_abs (neg_ℤ (pos n)) ≡ n
unsigned_abs-neg_ℤ zero = refl
unsigned_abs-neg_ℤ (suc n) = refl

-- a line with no sign
pub plain_positive : (text : List ℕ) (comma from end byte feed t size : ℕ) (v : ℤ) → from ≡ comma + 1 → v ≡ pos size → IsField text 0 comma 44 t
    → IsField text from end byte size → EndsAt text end feed → t ≤ last_time → size ≤ largest_value
    → IsFirstPoint text (after_feed text feed) (Ok (record { t = t; v = v }))
plain_positive text comma from end byte feed t size v start spelt time given ends in_time in_value =
    let value : IsField text (comma + 1) end byte size = subst (λ k. IsField text k end byte size) start given in
    let after : List ℕ = after_feed text feed in
    let tail : List ℕ = byte ∷ drop (end + 1) text in
    let ts : List ℕ = take (comma - 0) (drop 0 text) in
    let vs : List ℕ = take (end - (comma + 1)) (drop (comma + 1) text) in
    let times = field_digits text 0 comma 44 t time in
    let values = field_digits text (comma + 1) end byte size value in
    let cut : text ≡ ts ++ 44 ∷ (vs ++ tail) =
    field_cut text 0 comma 44 t time ∙ ap (λ l. ts ++ 44 ∷ l) (field_cut text (comma + 1) end byte size value) in
    subst (λ l. IsFirstPoint l after (Ok (record { t = t; v = v }))) (sym cut)
    (subst (λ z. IsFirstPoint (ts ++ 44 ∷ (vs ++ tail)) after (Ok (record { t = t; v = z }))) (sym spelt)
    (plain_point ts vs after tail t (pos size) (past_comma ts t times) (past_comma vs size values) (numeral_is ts t times) (numeral_is vs size values)
    in_time in_value (ends_line text end byte feed (sym value.after) ends)))

-- a line with a sign
pub plain_negative : (text : List ℕ) (comma from end byte feed t size : ℕ) (v : ℤ) → from ≡ comma + 2 → v ≡ neg_ℤ (pos size)
    → IsField text 0 comma 44 t → get_or text (comma + 1) 0 ≡ 45 → IsField text from end byte size → EndsAt text end feed → t ≤ last_time
    → size ≤ largest_value → IsFirstPoint text (after_feed text feed) (Ok (record { t = t; v = v }))
plain_negative text comma from end byte feed t size v start spelt time sign given ends in_time in_value =
    let value : IsField text (comma + 2) end byte size = subst (λ k. IsField text k end byte size) start given in
    let after : List ℕ = after_feed text feed in
    let tail : List ℕ = byte ∷ drop (end + 1) text in
    let ts : List ℕ = take (comma - 0) (drop 0 text) in
    let vs : List ℕ = take (end - (comma + 2)) (drop (comma + 2) text) in
    let times = field_digits text 0 comma 44 t time in
    let values = field_digits text (comma + 2) end byte size value in
    let inside : comma + 1 < length text = omega (arith, value.some, value.within) in
    let signed : drop (comma + 1) text ≡ 45 ∷ drop (comma + 2) text =
    drop-cons text (comma + 1) 0 inside ∙ ap (λ b. b ∷ drop (suc (comma + 1)) text) sign ∙ ap (λ k. 45 ∷ drop k text) {x = suc (comma + 1)} {y = comma + 2} (omega arith) in
    let cut : text ≡ ts ++ 44 ∷ ((45 ∷ vs) ++ tail) =
    field_cut text 0 comma 44 t time ∙ ap (λ l. ts ++ 44 ∷ l) (signed ∙ ap (λ l. 45 ∷ l) (field_cut text (comma + 2) end byte size value)) in
    let past : All (λ b. 44 < b) (45 ∷ vs) = All-cons (λ b. 44 < b) 45 vs (omega arith) (past_comma vs size values) in
    let amount : unsigned_abs (neg_ℤ (pos size)) ≡ size = unsigned_abs-neg_ℤ size in
    subst (λ l. IsFirstPoint l after (Ok (record { t = t; v = v }))) (sym cut)
    (subst (λ z. IsFirstPoint (ts ++ 44 ∷ ((45 ∷ vs) ++ tail)) after (Ok (record { t = t; v = z }))) (sym spelt)
    (plain_point ts (45 ∷ vs) after tail t (neg_ℤ (pos size)) (past_comma ts t times) past (numeral_is ts t times) (negative_is vs size values)
    in_time (rw amount in_value) (ends_line text end byte feed (sym value.after) ends)))

-- Lemmas on the digits that a text begins with.
use Rattle.std.proofs.Common.{◌≡◌, ℕ, suc, zero, ◌+◌, ◌-◌, ◌*◌, ◌%◌, ◌^◌, ◌<◌, ◌≤◌, Bool, true, false, ◌&&◌, cond, List, [], ◌∷◌, ◌++◌, length, take, drop, take-add, length-take, length-drop, arith, refl, sym, ap, ◌∙◌}
use Rattle.std.proofs.lemmas.Bool.{false≢true}
use Rattle.std.proofs.lemmas.List.{length-take-le, take-take, drop-take}
use Rattle.std.proofs.lemmas.List.Folds.{list_all-append}
use Rattle.std.proofs.Math.Nat.{pow-le-pow_right}
use Rattle.std.specs.Char.{is_ascii_digit, digit_value}
use Rattle.std.specs.List.{fold, list_all}
use Rattle.std.specs.Float.Numeral.{digits_len}
use Rattle.core.specs.Str.Parse.{AllDigits, digits_value_after, digits_value as ascii_value}
use Rattle.core.proofs.dec2flt.DigitsLemmas.{digit_range, is_digit, digits_len_short, digits_len-take, digits_value-append}
use Rattle.std.proofs.lemmas.Int.Digits.{digits_value-lt}
use Rattle.trend_num.specs.{digits_value}

-- of the first 16 bytes these are the digits before any other, and they spell v
pub record IsDigitRun (bytes : List ℕ) (n v : ℕ) : Type 0 where
  pub end : n ≡ digits_len (take 16 bytes)
  pub digits : list_all is_ascii_digit (take n bytes) ≡ true
  pub value : v ≡ digits_value (take n bytes)

-- what is before the first other byte is digits
run_digits : (xs : List ℕ) (n : ℕ) → n ≤ digits_len xs → list_all is_ascii_digit (take n xs) ≡ true
run_digits xs zero few = refl
run_digits [] (suc n) few = refl
run_digits (x ∷ xs) (suc n) few = go (run_digits xs n) (is_ascii_digit x) few
  where
    go : (n ≤ digits_len xs → list_all is_ascii_digit (take n xs) ≡ true) → (b : Bool) → suc n ≤ cond b (1 + digits_len xs) 0
        → (b && list_all is_ascii_digit (take n xs)) ≡ true
    go rest true l = rest (omega arith)
    go rest false l = absurd (omega arith)

-- digits after a number spell the same to the library
value_after : (n : ℕ) (ds : List ℕ) → list_all is_ascii_digit ds ≡ true → digits_value_after 10 n ds ≡ fold (λ n b. n * 10 + (b - 48)) n ds
value_after n [] all = refl
value_after n (d ∷ ds) all = go (value_after (n * 10 + (d - 48)) ds) (is_ascii_digit d) refl all
  where
    go : (list_all is_ascii_digit ds ≡ true → digits_value_after 10 (n * 10 + (d - 48)) ds ≡ fold (λ n b. n * 10 + (b - 48)) (n * 10 + (d - 48)) ds)
        → (b : Bool) → is_ascii_digit d ≡ b → (b && list_all is_ascii_digit ds) ≡ true
        → digits_value_after 10 (n * 10 + digit_value d) ds ≡ fold (λ n b. n * 10 + (b - 48)) (n * 10 + (d - 48)) ds
    go rest true e others =
        let code = digit_range d e in
        ap (λ k. digits_value_after 10 (n * 10 + k) ds) (is_digit d code.0 code.1).1 ∙ rest others
    go rest false e others = absurd (false≢true others)

-- as digits from the first on do
value_is : (ds : List ℕ) → list_all is_ascii_digit ds ≡ true → ascii_value 10 ds ≡ digits_value ds
value_is ds all = value_after 0 ds all

-- a run that ends in the first word
pub one_word : (xs : List ℕ) (c v : ℕ) → c < 8 → c ≡ digits_len (take 8 xs) → v ≡ ascii_value 10 (take c (take 8 xs)) → IsDigitRun xs c v
one_word xs c v few run value =
    let cut : take 8 (take 16 xs) ≡ take 8 xs = take-take 8 16 xs (omega arith) in
    let front : take c (take 8 xs) ≡ take c xs = take-take c 8 xs (omega arith) in
    let short : digits_len (take 8 (take 16 xs)) < 8 = rw cut (omega arith) in
    let digits : list_all is_ascii_digit (take c xs) ≡ true = rw front at (run_digits (take 8 xs) c (omega arith)) in
    record {
      end = sym (digits_len_short (take 16 xs) 8 short ∙ ap digits_len cut ∙ sym run);
      digits = digits;
      value = value ∙ ap (ascii_value 10) front ∙ value_is (take c xs) digits;
    }

-- digits are digits to the library
all_digits : (ds : List ℕ) → list_all is_ascii_digit ds ≡ true → AllDigits 10 ds
all_digits [] all = tt
all_digits (d ∷ ds) all = go (all_digits ds) (is_ascii_digit d) refl all
  where
    go : (list_all is_ascii_digit ds ≡ true → AllDigits 10 ds) → (b : Bool) → is_ascii_digit d ≡ b → (b && list_all is_ascii_digit ds) ≡ true → AllDigits 10 (d ∷ ds)
    go rest true e others = let code = digit_range d e in (omega (arith, (is_digit d code.0 code.1).1), rest others)
    go rest false e others = absurd (false≢true others)

-- k digits spell less than 10 ^ k
value_lt : (ds : List ℕ) (k : ℕ) → list_all is_ascii_digit ds ≡ true → length ds ≤ k → ascii_value 10 ds < 10 ^ k
value_lt ds k all few = grind (arith, pow-le-pow_right, digits_value-lt, all_digits)

-- so to us
pub spelt_lt : (ds : List ℕ) (k : ℕ) → list_all is_ascii_digit ds ≡ true → length ds ≤ k → digits_value ds < 10 ^ k
spelt_lt ds k all few = rw (← value_is ds all) (value_lt ds k all few)

-- and one that continues in the second
pub two_words : (xs : List ℕ) (c v d w tens : ℕ) → 16 ≤ length xs → c ≡ 8 → d ≤ 8 → c ≡ digits_len (take 8 xs) → v ≡ ascii_value 10 (take c (take 8 xs))
    → d ≡ digits_len (take 8 (drop 8 xs)) → w ≡ ascii_value 10 (take d (take 8 (drop 8 xs))) → tens ≡ 10 ^ d
    → IsDigitRun xs (8 + d) ((v * tens % 2 ^ 64 + w) % 2 ^ 64)
two_words xs c v d w tens long whole few run value run' value' power =
    let cut : take 8 (take 16 xs) ≡ take 8 xs = take-take 8 16 xs (omega arith) in
    let front : take c (take 8 xs) ≡ take 8 xs = ap (λ n. take n (take 8 xs)) whole ∙ take-take 8 8 xs (omega arith) in
    let back : take d (take 8 (drop 8 xs)) ≡ take d (drop 8 xs) = take-take d 8 (drop 8 xs) few in
    let joined : take (8 + d) xs ≡ take 8 xs ++ take d (drop 8 xs) = take-add 8 d xs in
    let high : list_all is_ascii_digit (take 8 xs) ≡ true = rw front at (run_digits (take 8 xs) c (omega arith)) in
    let low : list_all is_ascii_digit (take d (drop 8 xs)) ≡ true = rw back at (run_digits (take 8 (drop 8 xs)) d (omega arith)) in
    let digits : list_all is_ascii_digit (take (8 + d) xs) ≡ true = rw (joined, list_all-append, high, low) in
    let count : length (take d (drop 8 xs)) ≡ d = length-take-le d (drop 8 xs) (omega (arith, length-drop 8 xs)) in
    let sum : ascii_value 10 (take (8 + d) xs) ≡ v * tens + w = rw (joined, digits_value-append, count) (cc) in
    let small : ascii_value 10 (take (8 + d) xs) < 10 ^ 16 = value_lt (take (8 + d) xs) 16 digits (omega (arith, length-take (8 + d) xs)) in
    let wrapped : (v * tens % 2 ^ 64 + w) % 2 ^ 64 ≡ v * tens + w = omega arith in
    let first : digits_len (take 8 (take 16 xs)) ≡ 8 = ap digits_len cut ∙ sym run ∙ whole in
    let rest : drop (digits_len (take 8 (take 16 xs))) (take 16 xs) ≡ take 8 (drop 8 xs) = ap (λ n. drop n (take 16 xs)) first ∙ drop-take 8 8 xs in
    record {
      end = omega (arith, digits_len-take (take 16 xs) 8, ap digits_len rest);
      digits = digits;
      value = wrapped ∙ sym sum ∙ value_is (take (8 + d) xs) digits;
    }

-- the same run, by the index at which it ends
pub record IsDigitRange (bytes : List ℕ) (at end v : ℕ) : Type 0 where
  pub end_is : end ≡ at + digits_len (take (at + 16 - at) (drop at bytes))
  pub within : end ≤ at + 16
  pub digits : list_all is_ascii_digit (take (end - at) (drop at bytes)) ≡ true
  pub value : v ≡ digits_value (take (end - at) (drop at bytes))

pub digit_range_is : (bytes : List ℕ) (at end n v : ℕ) → end ≡ at + n → n ≤ 16 → IsDigitRun (drop at bytes) n v → IsDigitRange bytes at end v
digit_range_is bytes at end n v is few run = grind arith

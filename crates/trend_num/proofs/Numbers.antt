-- Lemmas on whole numbers and lists of them.
use Rattle.std.proofs.Common.{◌≡◌, ℕ, ◌+◌, ◌-◌, ◌*◌, ◌^◌, ◌<◌, ◌≤◌, true, false, List, length, take, get_or, arith, refl, sym, ◌∙◌, add-one}
use Rattle.std.proofs.lemmas.List.Sums.{fold_more}
use Rattle.std.proofs.lemmas.List.Folds.{list_all_at}
use Rattle.std.proofs.lemmas.Bool.{false≢true}
use Rattle.std.proofs.lemmas.Bool.Decides.{nat_tests}
use Rattle.std.proofs.Math.Nat.{pow-suc}
use Rattle.std.specs.Char.{is_ascii_digit}
use Rattle.std.specs.List.{list_all}
use Rattle.trend_num.specs.{digits_value}

-- n is the value of these k digits
pub record IsDigitsValue (n k : ℕ) (digits : List ℕ) : Type 0 where
  pub value : n ≡ digits_value digits
  pub small : digits_value digits < 10 ^ k

-- each of the digits is one
pub digit_at : (digits : List ℕ) (i : ℕ) → list_all is_ascii_digit digits ≡ true → i < length digits → is_ascii_digit (get_or digits i 0) ≡ true
digit_at digits i all below =
    elim (is_ascii_digit (get_or digits i 0)) as (λ b. is_ascii_digit (get_or digits i 0) ≡ b → b ≡ true) [
      | true ↦ λ _. refl
      | false ↦ λ e. absurd (false≢true (sym (list_all_at is_ascii_digit digits i 0 below e) ∙ all))
    ] refl

-- a digit's code
pub digit_code : (b : ℕ) → is_ascii_digit b ≡ true → (48 ≤ b) × (b ≤ 57)
digit_code b h = (grind (arith, nat_tests), grind (arith, nat_tests))

-- the value of one digit more
pub digits_value_more : (digits : List ℕ) (i : ℕ) → i < length digits
    → digits_value (take (i + 1) digits) ≡ digits_value (take i digits) * 10 + (get_or digits i 0 - 48)
digits_value_more digits i below = fold_more (λ n b. n * 10 + (b - 48)) 0 digits i 0 below

pub digits_value_step : (digits : List ℕ) (i n : ℕ) → list_all is_ascii_digit digits ≡ true → i < length digits
    → IsDigitsValue n i (take i digits) → IsDigitsValue (n * 10 + (get_or digits i 0 - 48)) (i + 1) (take (i + 1) digits)
digits_value_step digits i n all below so_far =
    let more = digits_value_more digits i below in
    let code = digit_code (get_or digits i 0) (digit_at digits i all below) in
    let power : 10 ^ (i + 1) ≡ 10 ^ i * 10 = rw add-one (pow-suc 10 i) in
    let v = so_far.value in
    let s = so_far.small in
    record {
      value = omega arith;
      small = omega arith;
    }

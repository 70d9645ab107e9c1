-- The whole number next to a fraction, by quotient and remainder.
use Rattle.std.proofs.Common.{◌≡◌, ℕ, ◌*◌, ◌<◌, ℤ, pos, negsuc, ◌+ℤ◌, ◌*ℤ◌, ◌≤ℤ◌, ◌<ℤ◌, arith}
use Rattle.std.specs.Int.{int_div_euclid, int_rem_euclid}
use Rattle.std.proofs.lemmas.Bool.Decides.{nat_tests}
use Rattle.std.proofs.lemmas.Int.{ints}
use Rattle.trend_num.specs.{IsRounded}
use Rattle.trend_model.specs.{rounded}
use Rattle.trend_report.specs.{whole_of}
use Rattle.trend_model.proofs.Rounding.{add_times, rounded_only}

-- a number is its quotient times the divisor, and the remainder
parts : (z : ℤ) (n : ℕ) → 0 < n → z ≡ (int_div_euclid z (pos n) *ℤ pos n) +ℤ int_rem_euclid z (pos n)
parts (pos a) n some = omega (arith, ints)
parts (negsuc a) n some = omega (arith, ints)

-- which is not below 0, and below the divisor
small_rest : (z : ℤ) (n : ℕ) → 0 < n → (pos 0 ≤ℤ int_rem_euclid z (pos n)) × (int_rem_euclid z (pos n) <ℤ pos n)
small_rest (pos a) n some = (omega (arith, ints), omega (arith, ints))
small_rest (negsuc a) n some = (omega (arith, ints), omega (arith, ints))

-- a product with twice a number is two products
twice_times : (q : ℤ) (n : ℕ) → q *ℤ pos (2 * n) ≡ (q *ℤ pos n) +ℤ (q *ℤ pos n)
twice_times q n = omega (arith, ints)

-- where the remainder is less than half the divisor, the quotient is next
lower_next : (z q r : ℤ) (n : ℕ) → z ≡ (q *ℤ pos n) +ℤ r → pos 0 ≤ℤ r → (pos 2 *ℤ r) <ℤ pos n → IsRounded z n q
lower_next z q r n whole above less =
    let two = twice_times q n in
    let more = add_times q (pos 1) (2 * n) in
    record { not_above = omega (arith, ints); not_below = omega (arith, ints) }

-- else one more is
upper_next : (z q r : ℤ) (n : ℕ) → z ≡ (q *ℤ pos n) +ℤ r → r <ℤ pos n → pos n ≤ℤ (pos 2 *ℤ r) → IsRounded z n (q +ℤ pos 1)
upper_next z q r n whole below more =
    let two = twice_times q n in
    let one = add_times q (pos 1) (2 * n) in
    let other = add_times (q +ℤ pos 1) (pos 1) (2 * n) in
    record { not_above = omega (arith, ints); not_below = omega (arith, ints) }

-- the same of the quotient and the remainder as they are computed
pub lower : (z q r : ℤ) (n : ℕ) → 0 < n → q ≡ int_div_euclid z (pos n) → r ≡ int_rem_euclid z (pos n)
    → (pos 2 *ℤ r) <ℤ pos n → q ≡ rounded z n
lower z q r n some quotient rest less =
    let whole : z ≡ (q *ℤ pos n) +ℤ r = rw (quotient, rest) (parts z n some) in
    let above : pos 0 ≤ℤ r = rw rest (small_rest z n some).0 in
    rounded_only z q n some (lower_next z q r n whole above less)

pub upper : (z q r : ℤ) (n : ℕ) → 0 < n → q ≡ int_div_euclid z (pos n) → r ≡ int_rem_euclid z (pos n)
    → pos n ≤ℤ (pos 2 *ℤ r) → q +ℤ pos 1 ≡ rounded z n
upper z q r n some quotient rest more =
    let whole : z ≡ (q *ℤ pos n) +ℤ r = rw (quotient, rest) (parts z n some) in
    let below : r <ℤ pos n = rw rest (small_rest z n some).1 in
    rounded_only z (q +ℤ pos 1) n some (upper_next z q r n whole below more)

-- a fraction that is not over 0 is printed rounded
pub rounded_told : (num : ℤ) (den : ℕ) → 0 < den → rounded num den ≡ whole_of num den
rounded_told num den some = grind (arith, nat_tests)

-- The whole number next to a fraction.
use Rattle.std.proofs.Common.{◌≡◌, ℕ, ◌+◌, ◌*◌, ◌/◌, ◌<◌, ℤ, pos, negsuc, ◌+ℤ◌, ◌*ℤ◌, ◌≤ℤ◌, ◌<ℤ◌, ap, arith}
use Rattle.std.specs.Int.{int_div_euclid}
use Rattle.std.proofs.lemmas.Int.{ints, by_lt_z}
use Rattle.std.proofs.Math.Nat.{mul-le-mul_right}
use borrow.Author.Differences.{up, down}
use Rattle.trend_num.specs.{IsRounded}
use Rattle.trend_model.specs.{rounded}

-- a sum times a natural number
pub add_times : (x y : ℤ) (t : ℕ) → (x +ℤ y) *ℤ pos t ≡ (x *ℤ pos t) +ℤ (y *ℤ pos t)
add_times x y t =
    let parts : up (x +ℤ y) + down x + down y ≡ down (x +ℤ y) + up x + up y = omega (arith, ints) in
    let times = ap (λ n. n * t) parts in
    omega (arith, ints)

-- products with a natural number keep the order
pub times_rise : (x y : ℤ) (t : ℕ) → x ≤ℤ y → (x *ℤ pos t) ≤ℤ (y *ℤ pos t)
times_rise x y t h = grind (arith, ints, mul-le-mul_right)

-- the whole part of a fraction is the greatest whole number that is not above it
pub whole_part : (z : ℤ) (n : ℕ) → 0 < n
    → ((int_div_euclid z (pos n) *ℤ pos n) ≤ℤ z) × (z <ℤ ((int_div_euclid z (pos n) +ℤ pos 1) *ℤ pos n))
whole_part (pos a) n some = (omega (arith, ints), omega (arith, ints))
whole_part (negsuc a) n some =
    let more = add_times (negsuc (a / n)) (pos 1) n in (omega (arith, ints), omega (arith, ints))

-- two whole numbers next to one fraction are not one below the other
pub not_under : (z m n : ℤ) (d : ℕ) → (n *ℤ pos d) ≤ℤ z → z <ℤ ((m +ℤ pos 1) *ℤ pos d) → n ≤ℤ m
not_under z m n d low high =
    by_lt_z m n
    (λ h. let rise = times_rise (m +ℤ pos 1) n d (omega (arith, ints)) in absurd (omega (arith, ints)))
    (λ h. h)

-- a fraction is rounded to the whole number next to it
pub rounded_next : (num : ℤ) (den : ℕ) → 0 < den → IsRounded num den (rounded num den)
rounded_next num den some =
    let parts = whole_part ((pos 2 *ℤ num) +ℤ pos den) (2 * den) (omega arith) in
    record { not_above = parts.0; not_below = parts.1 }

-- and to no other
pub rounded_only : (num n : ℤ) (den : ℕ) → 0 < den → IsRounded num den n → n ≡ rounded num den
rounded_only num n den some next =
    let there = rounded_next num den some in
    let z = (pos 2 *ℤ num) +ℤ pos den in
    let under = not_under z (rounded num den) n (2 * den) next.not_above there.not_below in
    let over = not_under z n (rounded num den) (2 * den) there.not_above next.not_below in
    omega (arith, ints)

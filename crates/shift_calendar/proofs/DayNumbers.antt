-- Day numbers that go through the bits of their type.
use Rattle.std.proofs.Common.{◌≡◌, ◌∙◌, ℕ, ◌<◌, ℤ, pos, ◌+ℤ◌, sym, ap, arith, FitsSigned, w32, to_z, of_z, to_z-of_z}
use Rattle.std.proofs.lemmas.Int.{ints}
use Rattle.shift_calendar.specs.{IsFirstDay, IsWindowDay}

-- the day after a day
pub day_after : (day : ℤ) → FitsSigned w32 day → IsWindowDay day → to_z w32 (of_z w32 (to_z w32 (of_z w32 day) +ℤ pos 1)) ≡ day +ℤ pos 1
day_after day fits in_range =
    let next : FitsSigned w32 (day +ℤ pos 1) = omega (arith, ints) in
    ap (λ d. to_z w32 (of_z w32 (d +ℤ pos 1))) (to_z-of_z fits) ∙ to_z-of_z next

-- the day so many days after the first
pub days_after : (day : ℤ) (k : ℕ) → FitsSigned w32 day → IsFirstDay day → k < 366
    → to_z w32 (of_z w32 (to_z w32 (of_z w32 day) +ℤ to_z w32 k)) ≡ to_z w32 (of_z w32 day) +ℤ pos k
days_after day k fits in_range few =
    let back : to_z w32 (of_z w32 day) ≡ day = to_z-of_z fits in
    let cast : to_z w32 k ≡ pos k = omega (arith, ints) in
    let sum : FitsSigned w32 (day +ℤ pos k) = omega (arith, ints) in
    ap (λ d. to_z w32 (of_z w32 (d +ℤ to_z w32 k))) back ∙ ap (λ n. to_z w32 (of_z w32 (day +ℤ n))) cast ∙ to_z-of_z sum
    ∙ ap (λ d. d +ℤ pos k) (sym back)

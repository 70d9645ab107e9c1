use Rattle.std.proofs.Common.{◌≡◌, ◌*◌, ◌≤◌, ℕ, ℤ, pos, ◌*ℤ◌, ap₂, ◌∙◌, subst, sym, arith, rules}
use Rattle.std.specs.Prelude.{FitsSigned, unsigned_abs}
use Rattle.std.specs.Int.{w64, w128}
use mir.Val.{of_z, to_z}
use Rattle.std.proofs.lemmas.Int.{to_z-of_z, unsigned_abs-mul, fits_signed_from_abs}
use Rattle.std.proofs.lemmas.Nat.{mul-le}
use Rattle.trend_num.specs.{last_time, largest_value}
use Rattle.late_insert.proofs.total.product.Goals as goal

-- the factors and their product fit
product_fits : (t : ℕ) (s : ℤ) → t ≤ last_time → unsigned_abs s ≤ 2 * largest_value → FitsSigned w128 (pos t *ℤ s)
product_fits t s long high =
    let most : unsigned_abs (pos t *ℤ s) ≤ last_time * (2 * largest_value) =
    rw unsigned_abs-mul (mul-le t (unsigned_abs s) last_time (2 * largest_value) long high) in
    fits_signed_from_abs w128 (pos t *ℤ s) (omega (arith, most))

factor_fits : (a : ℤ) → unsigned_abs a ≤ 2 * largest_value → FitsSigned w128 a
factor_fits a small = fits_signed_from_abs w128 a (omega (arith, small))

same : (a b : ℤ) (t : ℕ) (s : ℤ) → t ≤ last_time → unsigned_abs s ≤ 2 * largest_value → a ≡ pos t → b ≡ s
    → to_z w128 (of_z w128 a) *ℤ to_z w128 (of_z w128 b) ≡ pos t *ℤ s
same a b t s long high first second =
    ap₂ (λ x y. x *ℤ y)
    (ap₁ first (fits_signed_from_abs w128 (pos t) (omega (arith, long))))
    (ap₁ second (factor_fits s high))
  where
    ap₁ : {x y : ℤ} → x ≡ y → FitsSigned w128 y → to_z w128 (of_z w128 x) ≡ y
    ap₁ {x} {y} is fits = subst (λ z. to_z w128 (of_z w128 z) ≡ y) (sym is) (to_z-of_z w128 y fits)

pub overflow_mul-result : goal.overflow_mul-result
overflow_mul-result c =
    let first : c.from.result ≡ pos c.args.length = search rules in
    let word : FitsSigned w64 c.args.sum = search rules in
    let second = c.from-2.ensures ∙ to_z-of_z w64 c.args.sum word in
    subst (FitsSigned w128) (sym (same c.from.result c.from-2.result c.args.length c.args.sum c.requires.length c.requires.sum
    first second))
    (product_fits c.args.length c.args.sum c.requires.length c.requires.sum)

pub returns : goal.returns
returns c =
    let first : c.from.result ≡ pos c.args.length = search rules in
    let word : FitsSigned w64 c.args.sum = search rules in
    let second = c.from-2.ensures ∙ to_z-of_z w64 c.args.sum word in
    let is = same c.from.result c.from-2.result c.args.length c.args.sum c.requires.length c.requires.sum
    first second in
    subst (λ z. to_z w128 (of_z w128 z) ≡ pos c.args.length *ℤ c.args.sum) (sym is)
    (to_z-of_z w128 (pos c.args.length *ℤ c.args.sum)
    (product_fits c.args.length c.args.sum c.requires.length c.requires.sum))

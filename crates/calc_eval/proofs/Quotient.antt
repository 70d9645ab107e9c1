-- The floor of a quotient.
use Rattle.std.proofs.Common.{◌≡◌, ◌≢◌, ℕ, zero, suc, ◌<◌, ℤ, pos, negsuc, ◌+ℤ◌, ◌-ℤ◌, ◌*ℤ◌, ◌≤ℤ◌, ◌<ℤ◌, refl, ap, ap₂, ◌∙◌, arith}
use mir.Syntax.{w64, w128}
use mir.Val.{SFits, to_z, of_z}
use Rattle.std.specs.Prelude.{neg_ℤ}
use Rattle.std.specs.Int.{int_div_euclid}
use Rattle.std.proofs.lemmas.Int.{ints, to_z-of_z}
use Rattle.sheet_law.specs.{floor_div, floor_rem, IsFloorDivision}

-- what a quotient by a number above 0 leaves
left : (z : ℤ) (n : ℕ) → 0 < n
    → (pos 0 ≤ℤ (z -ℤ (pos n *ℤ int_div_euclid z (pos n))))
    × ((z -ℤ (pos n *ℤ int_div_euclid z (pos n))) <ℤ pos n)
left (pos a) n some = (omega (arith, ints), omega (arith, ints))
left (negsuc a) n some = (omega (arith, ints), omega (arith, ints))

-- the quotient by any number but 0 is the floor
pub floor_division : (a b : ℤ) → b ≢ pos 0 → IsFloorDivision a b (floor_div a b) (floor_rem a b)
floor_division a (pos zero) nonzero = absurd (nonzero refl)
floor_division a (pos (suc n)) nonzero =
    let around = left a (suc n) (omega arith) in
    let same : floor_div a (pos (suc n)) ≡ int_div_euclid a (pos (suc n)) = grind (arith, ints) in record {
      whole = omega (arith, ints);
      above = λ _. rw same around;
      below = λ less. absurd (omega (arith, ints));
    }
floor_division a (negsuc n) nonzero =
    let around = left (neg_ℤ a) (suc n) (omega arith) in record {
      whole = omega (arith, ints);
      above = λ more. absurd (omega (arith, ints));
      below = λ _. (omega (arith, ints, around.1), omega (arith, ints, around.0));
    }

-- what a quotient leaves is as small as the divisor
pub small_rem : (a b : ℤ) → b ≢ pos 0 → SFits w64 b → SFits w64 (floor_rem a b)
small_rem a (pos zero) nonzero fits = absurd (nonzero refl)
small_rem a (pos (suc n)) nonzero fits =
    let law = (floor_division a (pos (suc n)) nonzero).above (omega (arith, ints)) in omega (arith, ints, law)
small_rem a (negsuc n) nonzero fits =
    let law = (floor_division a (negsuc n) nonzero).below (omega (arith, ints)) in omega (arith, ints, law)

-- what a quotient of 64 bits leaves, computed with 128 bits
pub computed_rem : (a b : ℤ) → b ≢ pos 0 → SFits w64 a → SFits w64 b → SFits w128 (floor_div a b)
    → to_z w128 (of_z w128 (to_z w128 (of_z w128 a)
    -ℤ to_z w128 (of_z w128 (to_z w128 (of_z w128 b) *ℤ to_z w128 (of_z w128 (floor_div a b))))))
    ≡ floor_rem a b
computed_rem a b nonzero a_fits b_fits q_fits =
    let whole = (floor_division a b nonzero).whole in
    let r_fits : SFits w64 (floor_rem a b) = small_rem a b nonzero b_fits in
    let p_fits : SFits w128 (b *ℤ floor_div a b) =
    product_fits a (b *ℤ floor_div a b) (floor_rem a b) a_fits r_fits whole in
    let kept : ℤ → ℤ = λ z. to_z w128 (of_z w128 z) in
    let product : kept (kept b *ℤ kept (floor_div a b)) ≡ b *ℤ floor_div a b =
    ap kept (ap₂ (λ x y. x *ℤ y) (to_z-of_z w128 b (omega (arith, ints)))
    (to_z-of_z w128 (floor_div a b) q_fits))
    ∙ to_z-of_z w128 (b *ℤ floor_div a b) p_fits in
    ap kept (ap₂ (λ x y. x -ℤ y) (to_z-of_z w128 a (omega (arith, ints))) product)
    ∙ to_z-of_z w128 (floor_rem a b) (omega (arith, ints, r_fits))
  where
    product_fits : (a p r : ℤ) → SFits w64 a → SFits w64 r → a ≡ p +ℤ r → SFits w128 p
    product_fits a p r a_fits r_fits whole = omega (arith, ints)

-- Two doors that a point leaves where they are.
use Rattle.std.proofs.Common.{◌≡◌, ◌↔◌, ℕ, pos, Bool, true, false, cond, IsTrue, refl, sym, ap, ◌∙◌, arith}
use Rattle.std.proofs.lemmas.Int.{ints}
use Rattle.trend_num.specs.{Point}
use Rattle.trend_model.specs.{down, IsNotSteeper, is_not_steeper, upper_after, lower_after}
use Rattle.trend_model.proofs.Doors.{test_fact, steeper_self}
use Rattle.door_slopes.specs.Hung.{Hung}

-- a door that is not exchanged is not further open than at p
upper_left : (a u p : Point) (d : ℕ) (stays : Bool) → is_not_steeper a u (pos d) p (pos d) ≡ stays → cond stays u p ≡ u
    → IsNotSteeper a u (pos d) p (pos d)
upper_left a u p d true test same = test_fact _ _ test
upper_left a u p d false test same = steeper_self a u p (pos d) (sym same)

lower_left : (a l p : Point) (d : ℕ) (stays : Bool) → is_not_steeper a p (down d) l (down d) ≡ stays → cond stays l p ≡ l
    → IsNotSteeper a p (down d) l (down d)
lower_left a l p d true test same = test_fact _ _ test
lower_left a l p d false test same = steeper_self a p l (down d) same

-- doors that agree in their places are the same
same_hung : (new old : Hung) → new.hinge ≡ old.hinge → new.deviation ≡ old.deviation → new.upper ≡ old.upper → new.lower ≡ old.lower
    → new ≡ old
same_hung new old a d u l =
    let make : Point → ℕ → Point → Point → Hung = λ a d u l. record { hinge = a; deviation = d; upper = u; lower = l } in
    ap (λ x. make x new.deviation new.upper new.lower) a ∙ ap (λ x. make old.hinge x new.upper new.lower) d
    ∙ ap (λ x. make old.hinge old.deviation x new.lower) u ∙ ap (λ x. make old.hinge old.deviation old.upper x) l

-- doors that p swings are left where they were exactly where neither is further open than at p
pub left_doors : (old new : Hung) (p : Point) (same : Bool) → new.hinge ≡ old.hinge → new.deviation ≡ old.deviation
    → new.upper ≡ upper_after old.hinge old.deviation old.upper p → new.lower ≡ lower_after old.hinge old.deviation old.lower p
    → IsTrue same ↔ (new ≡ old)
    → IsTrue same ↔ (IsNotSteeper old.hinge old.upper (pos old.deviation) p (pos old.deviation)
    × IsNotSteeper old.hinge p (down old.deviation) old.lower (down old.deviation))
left_doors old new p same a d u l is = (
  λ t. (
    upper_left old.hinge old.upper p old.deviation _ refl (sym u ∙ ap (λ (h : Hung). h.upper) (is.0 t)),
    lower_left old.hinge old.lower p old.deviation _ refl (sym l ∙ ap (λ (h : Hung). h.lower) (is.0 t)),
  ),
  λ fits.
      let under : is_not_steeper old.hinge old.upper (pos old.deviation) p (pos old.deviation) ≡ true = grind (arith, ints, fits.0) in
      let over : is_not_steeper old.hinge p (down old.deviation) old.lower (down old.deviation) ≡ true = grind (arith, ints, fits.1) in
      is.1 (same_hung new old a d (u ∙ ap (λ b. cond b old.upper p) under) (l ∙ ap (λ b. cond b old.lower p) over)),
)

-- What a comparison of two slopes says as a test, and what doors decide.
use Rattle.std.proofs.Common.{◌≡◌, ℕ, ℤ, ◌<◌, Bool, List, ◌∷◌, ap, ◌∙◌, arith}
use Rattle.std.specs.Prelude.{int_le}
use Rattle.std.specs.List.{list_all}
use Rattle.std.specs.Ordering.{int_cmp, is_le}
use Rattle.std.specs.declared.cmp.Ordering.{Ordering}
use Rattle.std.proofs.lemmas.Int.{ints}
use Rattle.trend_num.specs.{Point, compare_slopes, is_within}
use Rattle.trend_model.specs.{AreAfter, climb, is_not_steeper, AreDoors, is_admitted, upper_after, lower_after}
use Rattle.trend_model.proofs.Doors.{doors_decide, doors_swing}
use Rattle.door_slopes.specs.Hung.{Hung}

-- one number is not above another exactly where the test says so
le_of_cmp : (m n : ℤ) → is_le (int_cmp m n) ≡ int_le m n
le_of_cmp m n = grind (arith, ints)

-- one slope is not above another exactly where it is not the steeper one
pub test_of_cmp : (o : Ordering) (a x y : Point) (q r : ℤ) → o ≡ compare_slopes a x q y r → is_le o ≡ is_not_steeper a x q y r
test_of_cmp o a x y q r same = ap is_le same ∙ le_of_cmp (climb a x q y) (climb a y r x)

-- what says whether the doors admit p says whether every value does
pub decided : (a p u l : Point) (d : ℕ) (admitted : Bool) → admitted ≡ is_admitted a d u l p → (values : List Point)
    → AreDoors a d values u l → AreAfter a values → admitted ≡ list_all (λ x. is_within a p x d) values
decided a p u l d admitted same values doors after = same ∙ doors_decide a p u l d values doors after

-- doors that have swung at the same hinge are those of the values and the new one
pub swung : (old new : Hung) (p : Point) → old.hinge.t < p.t → new.hinge ≡ old.hinge → new.deviation ≡ old.deviation
    → new.upper ≡ upper_after old.hinge old.deviation old.upper p → new.lower ≡ lower_after old.hinge old.deviation old.lower p
    → (values : List Point) → AreDoors old.hinge old.deviation values old.upper old.lower → AreAfter old.hinge values
    → AreDoors new.hinge new.deviation (p ∷ values) new.upper new.lower
swung old new p past hinge deviation upper lower values doors after =
    rw (hinge, deviation, upper, lower)
    (doors_swing old.hinge p old.upper old.lower old.deviation values doors after past)

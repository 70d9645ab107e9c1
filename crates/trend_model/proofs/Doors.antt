-- Two doors decide what a whole list of values decides.
use Rattle.std.proofs.Common.{◌≡◌, ℕ, ◌+◌, ◌-◌, ◌*◌, ◌<◌, ◌≤◌, inl, inr, ℤ, pos, ◌+ℤ◌, ◌-ℤ◌, ◌*ℤ◌, ◌≤ℤ◌, Bool, true, false, cond, ◌&&◌, List, [], ◌∷◌, unsigned_abs, refl, sym, ap, ◌∙◌, subst, arith}
use Rattle.std.specs.Prelude.{int_le}
use Rattle.std.specs.List.{list_all}
use Rattle.std.proofs.lemmas.Int.{ints}
use borrow.Author.Differences.{up, down as low}
use Rattle.std.proofs.Math.Nat.{mul-le-mul_right}
use Rattle.std.proofs.lemmas.Bool.Decides.{nat_tests}
use Rattle.std.proofs.lemmas.Bool.{false≢true}
use Rattle.trend_num.specs.{Point, Within, is_within}
use Rattle.trend_model.specs.{IsAmong, AreAfter, down, IsNotSteeper, is_not_steeper, AreDoors, is_admitted, upper_after, lower_after}

-- a common factor above 0 is cancelled
cancel_right : (a b n : ℕ) → 0 < n → a * n ≤ b * n → a ≤ b
cancel_right a b n some h = grind (arith, mul-le-mul_right, nat_tests)

-- the same for fractions that are differences of natural numbers
fractions_trans : (xu xd yu yd zu zd m n k : ℕ) → 0 < n → xu * n + yd * m ≤ xd * n + yu * m
    → yu * k + zd * n ≤ yd * k + zu * n → xu * k + zd * m ≤ xd * k + zu * m
fractions_trans xu xd yu yd zu zd m n k some xy yz =
    let first = mul-le-mul_right k xy in
    let second = mul-le-mul_right m yz in
    cancel_right (xu * k + zd * m) (xd * k + zu * m) n some (omega arith)

-- fractions with positive denominators: x / m ≤ y / n and y / n ≤ z / k give x / m ≤ z / k
pub slope_trans : (x y z : ℤ) (m n k : ℕ) → 0 < n → (x *ℤ pos n) ≤ℤ (y *ℤ pos m)
    → (y *ℤ pos k) ≤ℤ (z *ℤ pos n) → (x *ℤ pos k) ≤ℤ (z *ℤ pos m)
slope_trans x y z m n k some xy yz =
    let first : up x * n + low y * m ≤ low x * n + up y * m = omega (arith, ints) in
    let second : up y * k + low z * n ≤ low y * k + up z * n = omega (arith, ints) in
    let whole = fractions_trans (up x) (low x) (up y) (low y) (up z) (low z) m n k some first second in
    omega (arith, ints)

-- a raised climb is the climb and the raise, times the length
raised_climb : (v a : ℤ) (d t : ℕ) → ((v +ℤ pos d) -ℤ a) *ℤ pos t ≡ ((v -ℤ a) *ℤ pos t) +ℤ pos (d * t)
raised_climb v a d t =
    let parts : up ((v +ℤ pos d) -ℤ a) + low (v -ℤ a) ≡ low ((v +ℤ pos d) -ℤ a) + up (v -ℤ a) + d =
    omega (arith, ints) in
    let times = ap (λ n. n * t) parts in
    omega (arith, ints)

-- a lowered climb is the climb less the lowering, times the length
lowered_climb : (v a : ℤ) (d t : ℕ) → ((v +ℤ down d) -ℤ a) *ℤ pos t ≡ ((v -ℤ a) *ℤ pos t) -ℤ pos (d * t)
lowered_climb v a d t =
    let parts : up ((v +ℤ down d) -ℤ a) + low (v -ℤ a) + d ≡ low ((v +ℤ down d) -ℤ a) + up (v -ℤ a) =
    omega (arith, ints) in
    let times = ap (λ n. n * t) parts in
    omega (arith, ints)

-- a value raised by nothing climbs as it does
same_climb : (v a : ℤ) (t : ℕ) → ((v +ℤ pos 0) -ℤ a) *ℤ pos t ≡ (v -ℤ a) *ℤ pos t
same_climb v a t = grind (arith, ints)

-- what is near is under the sum and over the difference
near_parts : (x p : ℤ) (e : ℕ) → unsigned_abs (x -ℤ p) ≤ e → (p ≤ℤ (x +ℤ pos e)) × ((x -ℤ pos e) ≤ℤ p)
near_parts x p e h = (omega (arith, ints), omega (arith, ints))

-- and what is so is near
parts_near : (x p : ℤ) (e : ℕ) → p ≤ℤ (x +ℤ pos e) → (x -ℤ pos e) ≤ℤ p → unsigned_abs (x -ℤ p) ≤ e
parts_near x p e above below = omega (arith, ints)

-- a value that is near the line to p, raised, is not under it
pub under_of_within : (a p x : Point) (d : ℕ) → Within a p x d → IsNotSteeper a p (pos 0) x (pos d)
under_of_within a p x d near = grind (arith, same_climb, raised_climb, near_parts)

-- lowered, it is not over it
pub over_of_within : (a p x : Point) (d : ℕ) → Within a p x d → IsNotSteeper a x (down d) p (pos 0)
over_of_within a p x d near =
    rw (lowered_climb x.v a.v d (p.t - a.t), same_climb p.v a.v (x.t - a.t))
    (near_parts ((x.v -ℤ a.v) *ℤ pos (p.t - a.t)) ((p.v -ℤ a.v) *ℤ pos (x.t - a.t)) (d * (p.t - a.t)) near).1

-- and one that is neither is near
pub within_of_parts : (a p x : Point) (d : ℕ) → IsNotSteeper a p (pos 0) x (pos d)
    → IsNotSteeper a x (down d) p (pos 0) → Within a p x d
within_of_parts a p x d under over = grind (arith, parts_near, same_climb, raised_climb, lowered_climb)

-- slopes are compared transitively, over a point after the hinge
pub steeper_trans : (a x y z : Point) (q r s : ℤ) → a.t < y.t → IsNotSteeper a x q y r
    → IsNotSteeper a y r z s → IsNotSteeper a x q z s
steeper_trans a x y z q r s after xy yz = grind (arith, slope_trans)

-- ---- the tests and their facts

-- two tests pass where each does
both : (b c : Bool) → b ≡ true → c ≡ true → b && c ≡ true
both true c x y = y
both false c x y = x

-- where both pass the first does
pub first_of_both : (b c : Bool) → b && c ≡ true → b ≡ true
first_of_both true c h = refl
first_of_both false c h = h

-- and so does the second
pub second_of_both : (b c : Bool) → b && c ≡ true → c ≡ true
second_of_both true c h = h
second_of_both false c h = absurd (false≢true h)

-- a test that passes says its fact
pub test_fact : (m n : ℤ) → int_le m n ≡ true → m ≤ℤ n
test_fact m n e = grind (arith, ints)

-- a fact passes its test
fact_test : (m n : ℤ) → m ≤ℤ n → int_le m n ≡ true
fact_test m n h = grind (arith, ints)

-- a test that fails says the other order
test_other : (m n : ℤ) → int_le m n ≡ false → n ≤ℤ m
test_other m n e = grind (arith, ints)

-- every value passes a test where each does
pub all_pass : (test : Point → Bool) (values : List Point) → ((x : Point) → IsAmong x values → test x ≡ true)
    → list_all test values ≡ true
all_pass test [] each = refl
all_pass test (x ∷ values) each =
    ap (λ b. b && list_all test values) (each x (inl refl)) ∙ all_pass test values
    (λ y there. each y (inr there))

-- and each does where every value does
pub pass_each : (test : Point → Bool) (values : List Point) → list_all test values ≡ true → (x : Point)
    → IsAmong x values → test x ≡ true
pass_each test [] all x there = absurd there
pass_each test (v ∷ values) all x (inl e) = ap test e ∙ first_of_both (test v) (list_all test values) all
pass_each test (v ∷ values) all x (inr there) =
    pass_each test values (second_of_both (test v) (list_all test values) all) x there

-- a point is near where the test of its distance passes
pub within_test : (a p x : Point) (d : ℕ) → is_within a p x d ≡ true → Within a p x d
within_test a p x d e = grind (arith, nat_tests)

-- and the test passes where it is
test_within : (a p x : Point) (d : ℕ) → Within a p x d → is_within a p x d ≡ true
test_within a p x d h = grind (arith, nat_tests)

-- two tests that pass together are one
same_test : (b c : Bool) → (b ≡ true → c ≡ true) → (c ≡ true → b ≡ true) → b ≡ c
same_test true c there back = sym (there refl)
same_test false true there back = back refl
same_test false false there back = refl

-- ---- doors decide

-- what passes between the doors is near every value
admitted_near : (a p u l x : Point) (d : ℕ) (values : List Point) → AreDoors a d values u l
    → AreAfter a values → IsAmong x values → is_admitted a d u l p ≡ true → Within a p x d
admitted_near a p u l x d values doors after there yes_it =
    grind (arith, test_fact, first_of_both, second_of_both, within_of_parts, steeper_trans)

-- two doors decide what the whole list decides
pub doors_decide : (a p u l : Point) (d : ℕ) (values : List Point) → AreDoors a d values u l
    → AreAfter a values → is_admitted a d u l p ≡ list_all (λ x. is_within a p x d) values
doors_decide a p u l d values doors after =
    same_test (is_admitted a d u l p) (list_all (λ x. is_within a p x d) values)
    (λ yes_it. grind (arith, all_pass, test_within, admitted_near))
    (λ all. grind (arith, both, fact_test, under_of_within, within_test, pass_each, over_of_within))

-- ---- doors move

-- each slope is at most itself
pub steeper_self : (a x y : Point) (q : ℤ) → x ≡ y → IsNotSteeper a x q y q
steeper_self a x y q e = subst (λ z. IsNotSteeper a x q z q) e (omega (arith, ints))

-- both doors hang at the only value
pub doors_hang : (a p : Point) (d : ℕ) → AreDoors a d (p ∷ []) p p
doors_hang a p d = grind (arith, steeper_self)

-- the upper door stays, or is the new value
upper_swings : (a p u : Point) (d : ℕ) (values : List Point) (stays : Bool)
    → is_not_steeper a u (pos d) p (pos d) ≡ stays → AreAfter a values → a.t < p.t → IsAmong u values
    → ((x : Point) → IsAmong x values → IsNotSteeper a u (pos d) x (pos d))
    → IsAmong (cond stays u p) (p ∷ values) ×
    ((x : Point) → IsAmong x (p ∷ values) → IsNotSteeper a (cond stays u p) (pos d) x (pos d))
upper_swings a p u d values true test after past there least = (
  inr there,
  λ x among. elim among [
    | inl e ↦ subst (λ z. IsNotSteeper a u (pos d) z (pos d)) (sym e) (test_fact _ _ test)
    | inr old ↦ least x old
  ],
)
upper_swings a p u d values false test after past there least = (
  inl refl,
  λ x among. elim among [
    | inl e ↦ steeper_self a p x (pos d) (sym e)
    | inr old ↦
        steeper_trans a p u x (pos d) (pos d) (pos d) (after u there) (test_other _ _ test) (least x old)
  ],
)

-- and the lower one
lower_swings : (a p l : Point) (d : ℕ) (values : List Point) (stays : Bool)
    → is_not_steeper a p (down d) l (down d) ≡ stays → AreAfter a values → a.t < p.t → IsAmong l values
    → ((x : Point) → IsAmong x values → IsNotSteeper a x (down d) l (down d))
    → IsAmong (cond stays l p) (p ∷ values) ×
    ((x : Point) → IsAmong x (p ∷ values) → IsNotSteeper a x (down d) (cond stays l p) (down d))
lower_swings a p l d values true test after past there greatest = (
  inr there,
  λ x among. elim among [
    | inl e ↦ subst (λ z. IsNotSteeper a z (down d) l (down d)) (sym e) (test_fact _ _ test)
    | inr old ↦ greatest x old
  ],
)
lower_swings a p l d values false test after past there greatest = (
  inl refl,
  λ x among. elim among [
    | inl e ↦ steeper_self a x p (down d) e
    | inr old ↦
        steeper_trans a x l p (down d) (down d) (down d) (after l there) (greatest x old)
        (test_other _ _ test)
  ],
)

-- a value more swings the doors
pub doors_swing : (a p u l : Point) (d : ℕ) (values : List Point) → AreDoors a d values u l
    → AreAfter a values → a.t < p.t → AreDoors a d (p ∷ values) (upper_after a d u p) (lower_after a d l p)
doors_swing a p u l d values doors after past = grind (arith, upper_swings, lower_swings)

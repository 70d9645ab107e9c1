-- What is read of points in range can be rounded, and is a value in range.
use Rattle.std.proofs.Common.{◌≡◌, ℕ, ◌*◌, ◌^◌, ◌<◌, ◌≤◌, inl, inr, ℤ, pos, ◌*ℤ◌, ◌≤ℤ◌, Bool, true, false, nat_eq, List, [], ◌∷◌, Some, All, arith}
use Rattle.std.specs.Prelude.{FitsSigned, unsigned_abs}
use Rattle.std.proofs.lemmas.Bool.{cases_eq, cases_lt, cond_both, eq-eqb, ne_eqb, le-ltb, lt-ltb}
use Rattle.std.proofs.lemmas.Int.{fits_signed_from_abs, ints, to_z-of_z, unsigned_abs-mul}
use Rattle.std.proofs.lemmas.List.Elements.{All-head, All-tail}
use Rattle.std.proofs.lemmas.Nat.{mul-le}
use Rattle.trend_num.specs.{Frac, Point, Reading, IsRounded, line_value, InRange, largest_value, last_time}
use Rattle.trend_num.specs.declared.reading.Reading.TheVariants.{Exact, Line, Flat, Nothing}
use Rattle.trend_model.specs.{PointsRise, RisesAfter, between, read_at, read_from, rounded, value_read, greater, lesser}
use Rattle.trend_model.proofs.ReadLaw.{line_between, rounded_between}
use Rattle.trend_model.proofs.Rounding.{rounded_only}
use Rattle.interp_read.specs.{IsReadable, IsRoundable}
use mir.Syntax.{w64, w128}
use mir.Val.{of_z, to_z}

-- the lesser and the greater of two values are in range
lesser_small : (u w : ℤ) (m : ℕ) → unsigned_abs u ≤ m → unsigned_abs w ≤ m → unsigned_abs (lesser u w) ≤ m
lesser_small u w m first second = grind (arith, cond_both)

greater_small : (u w : ℤ) (m : ℕ) → unsigned_abs u ≤ m → unsigned_abs w ≤ m → unsigned_abs (greater u w) ≤ m
greater_small u w m first second = grind (arith, cond_both)

-- what is between small numbers is small
between_small : (a b c : ℤ) (m : ℕ) → a ≤ℤ b → b ≤ℤ c → unsigned_abs a ≤ m → unsigned_abs c ≤ m
    → unsigned_abs b ≤ m
between_small a b c m low high first last = omega (arith, ints)

-- a value of a line between two points in range
line_roundable : (p q : Point) (t : ℕ) → InRange p → InRange q → p.t < t → t < q.t
    → IsRoundable (line_value p q t)
line_roundable p q t first second low high =
    let f = line_value p q t in
    let both = line_between p q t low high in
    let d : f.den ≤ last_time = omega (arith, second.time) in
    let some : 0 < f.den = omega arith in
    let least = lesser_small p.v q.v largest_value first.value second.value in
    let most = greater_small p.v q.v largest_value first.value second.value in
    let least_times : unsigned_abs (lesser p.v q.v *ℤ pos f.den) ≤ largest_value * last_time =
    rw unsigned_abs-mul (mul-le (unsigned_abs (lesser p.v q.v)) f.den largest_value last_time least d) in
    let most_times : unsigned_abs (greater p.v q.v *ℤ pos f.den) ≤ largest_value * last_time =
    rw unsigned_abs-mul (mul-le (unsigned_abs (greater p.v q.v)) f.den largest_value last_time most d) in
    let num =
    between_small (lesser p.v q.v *ℤ pos f.den) f.num (greater p.v q.v *ℤ pos f.den)
    (largest_value * last_time)
    both.not_below both.not_above least_times most_times in
    let value = rounded_between p.v q.v f some both in
    record {
      some = some;
      few = d;
      small = omega (arith, num);
      value = between_small (lesser p.v q.v) (rounded f.num f.den)
          (greater p.v q.v) largest_value value.not_below value.not_above least most;
    }

readable_from : (step : Bool) (p : Point) (ps : List Point) (t : ℕ) → RisesAfter p ps
    → All (λ q. InRange q) (p ∷ ps) → p.t ≤ t
    → IsReadable (read_from step p ps t)
readable_from step p [] t rises range after =
    let first : InRange p = All-head (λ q. InRange q) p [] range in
    cond_both (nat_eq p.t t) (Exact p.v) (Flat p.v) IsReadable (λ e. first.value) (λ e. first.value)
readable_from step p (q ∷ ps) t rises range after =
    let In : Point → Type 0 = λ x. InRange x in
    let first : InRange p = All-head In p (q ∷ ps) range in
    let rest = All-tail In p (q ∷ ps) range in
    let second : InRange q = All-head In q ps rest in
    elim (cases_eq p.t t) [
      | inl same ↦ rw (eq-eqb p.t t same) first.value
      | inr other ↦ rw (ne_eqb p.t t other) (elim (cases_lt t q.t) [
        | inl before ↦ rw (lt-ltb t q.t before) (of_step step first second before (omega arith))
        | inr behind ↦ rw (le-ltb t q.t behind) (readable_from step q ps t rises.1 rest behind)
      ])
    ]
  where
    of_step : (s : Bool) → InRange p → InRange q → t < q.t → p.t < t → IsReadable (between s p q t)
    of_step true first second before later = first.value
    of_step false first second before later = line_roundable p q t first second later before

-- what points in range read as
pub readable : (step : Bool) (ps : List Point) (t : ℕ) → PointsRise ps → All (λ q. InRange q) ps
    → IsReadable (read_at step ps t)
readable step [] t rises range = tt
readable step (p ∷ ps) t rises range =
    elim (cases_lt t p.t) [
      | inl before ↦ rw (lt-ltb t p.t before) tt
      | inr after ↦ rw (le-ltb t p.t after) (readable_from step p ps t rises range after)
    ]

-- its value, rounded, is in range
pub value_small : (r : Reading) (v : ℤ) → IsReadable r → value_read r ≡ Some v
    → unsigned_abs v ≤ largest_value
value_small (Exact w) v small is = let same : w ≡ v = cc in rw (← same) small
value_small (Line f) v small is = let same : rounded f.num f.den ≡ v = cc in rw (← same) small.value
value_small (Flat w) v small is = let same : w ≡ v = cc in rw (← same) small
value_small Nothing v small is = cc

-- ---- rounding in the code

-- a number that is small enough is its bits read back
pub num_back : (z : ℤ) → unsigned_abs z ≤ 10 ^ 30 → to_z w128 (of_z w128 z) ≡ z
num_back z small = to_z-of_z w128 z (fits_signed_from_abs w128 z (omega (arith, small)))

pub value_fits : (z : ℤ) → unsigned_abs z ≤ largest_value → FitsSigned w64 z
value_fits z small = fits_signed_from_abs w64 z (omega (arith, small))

-- what rounding gives is the rounded fraction, a value in range
pub rounded_is : (f : Frac) (r : ℤ) → IsRoundable f → IsRounded (to_z w128 (of_z w128 f.num)) f.den r
    → (r ≡ rounded f.num f.den) × (unsigned_abs r ≤ largest_value)
rounded_is f r fair next = grind (arith, rounded_only, num_back)

-- so nothing is lost where it becomes a value
pub cast_back : (r : ℤ) → unsigned_abs r ≤ largest_value → to_z w64 (of_z w64 (to_z w128 (of_z w128 r))) ≡ r
cast_back r small = grind (arith, num_back, to_z-of_z, value_fits)

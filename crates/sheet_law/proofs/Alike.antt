-- Windows of two lists of points that are the same on one side of a point.
use Rattle.std.proofs.Common.{◌≡◌, ℕ, ◌<◌, ◌≤◌, inl, inr, pos, Bool, true, false, cond, nat_lt, nat_le, eqb, List, [], ◌∷◌, ◌++◌, length, None, Some, refl, sym, ap, ◌∙◌, arith}
use Rattle.std.specs.Prelude.{◌&&◌, filter}
use Rattle.std.proofs.lemmas.Bool.{cases_lt, eq-eqb, lt-ltb, le-ltb}
use Rattle.std.proofs.lemmas.Bool.Decides.{nat_tests}
use Rattle.std.proofs.lemmas.List.Elements.{filter-append}
use Rattle.trend_num.specs.{Measure, Point}
use Rattle.trend_num.specs.declared.measure.Measure.TheVariants.{Area, Avg, Total, Low, High, Count, First, Last}
use Rattle.trend_num.specs.declared.reading.Reading.TheVariants.{Exact, Nothing}
use Rattle.trend_model.specs.{IsAmong, PointsRise, RisesAfter, between, read_at, read_from, is_covered, last_time_from, measured, window_value}
use Rattle.trend_model.proofs.ReadLaw.{among_after, among_middle, read_at-append}
use Rattle.trend_model.proofs.WindowLaw.{after_middle, before_middle, inside}

-- ---- what a window's value is made of

-- at or after a time, and before another
abbrev counted : ℕ → ℕ → Point → Bool
counted from to p = nat_le from p.t && nat_lt p.t to

-- a measure knows the shape, and which points it counts
measured_alike : (step : Bool) (m : Measure) (ps qs s : List Point) (from to : ℕ)
    → filter (counted from to) ps ≡ filter (counted from to) qs
    → measured step m ps s from to ≡ measured step m qs s from to
measured_alike step Area ps qs s from to same = refl
measured_alike step Avg ps qs s from to same = refl
measured_alike step Total ps qs s from to same = refl
measured_alike step Low ps qs s from to same = refl
measured_alike step High ps qs s from to same = refl
measured_alike step Count ps qs s from to same = ap (λ (l : List Point). Some (pos (length l))) same
measured_alike step First ps qs s from to same = refl
measured_alike step Last ps qs s from to same = refl

-- two lists that a window reads alike: both ends, what is inside, and what is counted
pub record IsAlike (step : Bool) (ps qs : List Point) (from to : ℕ) : Type 0 where
  pub covered : is_covered ps from to ≡ is_covered qs from to
  pub start : read_at step ps from ≡ read_at step qs from
  pub end : read_at step ps to ≡ read_at step qs to
  pub inside_is : filter (inside from to) ps ≡ filter (inside from to) qs
  pub counted_is : filter (counted from to) ps ≡ filter (counted from to) qs

-- have one value of every measure
pub window_alike : (step : Bool) (m : Measure) (ps qs : List Point) (from to : ℕ) → IsAlike step ps qs from to
    → window_value step m ps from to ≡ window_value step m qs from to
window_alike step m ps qs from to alike = grind (arith, measured_alike)

-- a window that is not covered has none
pub uncovered : (step : Bool) (m : Measure) (ps : List Point) (from to : ℕ) → is_covered ps from to ≡ false
    → window_value step m ps from to ≡ None
uncovered step m ps from to bare = rw bare refl

-- ---- up to a point

-- from a point on, a read at its time is exact
exact_from : (step : Bool) (p : Point) (ys : List Point) (t : ℕ) → p.t ≡ t → read_from step p ys t ≡ Exact p.v
exact_from step p [] t same = rw (eq-eqb p.t t same) refl
exact_from step p (y ∷ ys) t same = rw (eq-eqb p.t t same) refl

-- a read up to a point does not depend on what is after it
from_upto : (step : Bool) (x : Point) (front : List Point) (p : Point) (ys zs : List Point) (t : ℕ) → t ≤ p.t
    → read_from step x (front ++ p ∷ ys) t ≡ read_from step x (front ++ p ∷ zs) t
from_upto step x [] p ys zs t upto =
    ap (λ r. cond (eqb x.t t) (Exact x.v) r)
    (elim (cases_lt t p.t) [
      | inl before ↦ rw (lt-ltb t p.t before) refl
      | inr after ↦
          rw (le-ltb t p.t after)
          (exact_from step p ys t (omega arith) ∙ sym (exact_from step p zs t (omega arith)))
    ])
from_upto step x (y ∷ front) p ys zs t upto =
    ap (λ r. cond (eqb x.t t) (Exact x.v) (cond (nat_lt t y.t) (between step x y t) r))
    (from_upto step y front p ys zs t upto)

read_upto : (step : Bool) (front : List Point) (p : Point) (ys zs : List Point) (t : ℕ) → t ≤ p.t
    → read_at step (front ++ p ∷ ys) t ≡ read_at step (front ++ p ∷ zs) t
read_upto step [] p ys zs t upto =
    elim (cases_lt t p.t) [
      | inl before ↦ rw (lt-ltb t p.t before) refl
      | inr after ↦
          rw (le-ltb t p.t after)
          (exact_from step p ys t (omega arith) ∙ sym (exact_from step p zs t (omega arith)))
    ]
read_upto step (x ∷ front) p ys zs t upto =
    ap (λ r. cond (nat_lt t x.t) Nothing r) (from_upto step x front p ys zs t upto)

-- a test that fails on these points keeps none
filter_none : (f : Point → Bool) (ps : List Point) → ((x : Point) → IsAmong x ps → f x ≡ false)
    → filter f ps ≡ []
filter_none f [] fails = refl
filter_none f (x ∷ xs) fails = rw (fails x (inl refl)) (filter_none f xs (λ y in_it. fails y (inr in_it)))

-- a point that is after another is not before it
not_before : (front : List Point) (p : Point) (ys : List Point) → PointsRise (front ++ p ∷ ys) → (y : Point)
    → IsAmong y (p ∷ ys) → p.t ≤ y.t
not_before front p ys rises y in_it = grind (arith, after_middle)

-- a test that fails from a point on depends only on what is before it
filter_upto : (f : Point → Bool) (front : List Point) (p : Point) (ys : List Point)
    → ((y : Point) → p.t ≤ y.t → f y ≡ false) → PointsRise (front ++ p ∷ ys)
    → filter f (front ++ p ∷ ys) ≡ filter f front ++ []
filter_upto f front p ys fails rises =
    filter-append f front (p ∷ ys)
    ∙ ap (λ l. filter f front ++ l)
    (filter_none f (p ∷ ys) (λ y in_it. fails y (not_before front p ys rises y in_it)))

-- the last time is not before that of a point
last_late : (x : Point) (front : List Point) (p : Point) (ys : List Point) → PointsRise (front ++ p ∷ ys)
    → p.t ≤ last_time_from x (front ++ p ∷ ys)
last_late x [] p [] rises = omega arith
last_late x [] p (y ∷ ys) rises =
    let rest : y.t ≤ last_time_from p (y ∷ ys) = last_late p [] y ys (rest_rises y ys rises.1) in
    omega (arith, rises.0, rest)
  where
    rest_rises : (y : Point) (ys : List Point) → RisesAfter y ys → PointsRise (y ∷ ys)
    rest_rises y ys h = h
last_late x (y ∷ front) p ys rises = last_late y front p ys (rises_rest y (front ++ p ∷ ys) rises)
  where
    rises_rest : (x : Point) (xs : List Point) → RisesAfter x xs → PointsRise xs
    rises_rest x [] h = tt
    rises_rest x (y ∷ xs) h = h.1

-- a window that ends at a point or before it does not depend on what is after the point
pub alike_upto : (step : Bool) (front : List Point) (p : Point) (ys zs : List Point) (from to : ℕ)
    → PointsRise (front ++ p ∷ ys) → PointsRise (front ++ p ∷ zs) → from < to → to ≤ p.t
    → IsAlike step (front ++ p ∷ ys) (front ++ p ∷ zs) from to
alike_upto step front p ys zs from to rises also some upto = record {
  covered = covers front rises also;
  start = read_upto step front p ys zs from (omega arith);
  end = read_upto step front p ys zs to upto;
  inside_is = grind (arith, filter_upto, inside, outside);
  counted_is = grind (arith, filter_upto, uncounted);
}
  where
    outside : (y : Point) → p.t ≤ y.t → inside from to y ≡ false
    outside y after = grind (arith, nat_tests)

    uncounted : (y : Point) → p.t ≤ y.t → counted from to y ≡ false
    uncounted y after = grind (arith, nat_tests)

    both_end : (x : Point) (l : List Point) (ws : List Point) → PointsRise (l ++ p ∷ ws)
        → nat_le to (last_time_from x (l ++ p ∷ ws)) ≡ true
    both_end x l ws h = let late = last_late x l p ws h in grind (arith, nat_tests)

    starts_late : (b : Bool) → (nat_le p.t from && b) ≡ false
    starts_late b = grind (arith, nat_tests)

    tail_rises : (x : Point) (xs : List Point) → RisesAfter x xs → PointsRise xs
    tail_rises x [] h = tt
    tail_rises x (y ∷ xs) h = h.1

    covers : (l : List Point) → PointsRise (l ++ p ∷ ys) → PointsRise (l ++ p ∷ zs)
        → is_covered (l ++ p ∷ ys) from to ≡ is_covered (l ++ p ∷ zs) from to
    covers [] h k = starts_late (nat_le to (last_time_from p ys)) ∙ sym (starts_late (nat_le to (last_time_from p zs)))
    covers (x ∷ l) h k =
        ap (λ b. nat_le x.t from && b)
        (both_end x l ys (tail_rises x (l ++ p ∷ ys) h) ∙ sym (both_end x l zs (tail_rises x (l ++ p ∷ zs) k)))

-- ---- from a point on

-- a test that fails before a point depends only on what is from it on
filter_on : (f : Point → Bool) (front : List Point) (q : Point) (ys : List Point)
    → ((x : Point) → x.t < q.t → f x ≡ false) → PointsRise (front ++ q ∷ ys)
    → filter f (front ++ q ∷ ys) ≡ filter f (q ∷ ys)
filter_on f front q ys fails rises = grind (arith, filter-append, filter_none, before_middle)

-- the last time is known from a point on
last_on : (x : Point) (front : List Point) (q : Point) (ys : List Point)
    → last_time_from x (front ++ q ∷ ys) ≡ last_time_from q ys
last_on x [] q ys = refl
last_on x (y ∷ front) q ys = last_on y front q ys

-- a list reads from one of its points on as if it began there
begins_on : (step : Bool) (front : List Point) (q : Point) (ys : List Point) (from to : ℕ)
    → PointsRise (front ++ q ∷ ys) → from < to → q.t ≤ from
    → IsAlike step (front ++ q ∷ ys) (q ∷ ys) from to
begins_on step front q ys from to rises some on = record {
  covered = covers front rises;
  start = read_at-append step front q ys from rises on;
  end = read_at-append step front q ys to rises (omega arith);
  inside_is = filter_on (inside from to) front q ys outside rises;
  counted_is = filter_on (counted from to) front q ys uncounted rises;
}
  where
    outside : (x : Point) → x.t < q.t → inside from to x ≡ false
    outside x before = grind (arith, nat_tests)

    uncounted : (x : Point) → x.t < q.t → counted from to x ≡ false
    uncounted x before = grind (arith, nat_tests)

    starts : (t : ℕ) → t ≤ from → nat_le t from ≡ true
    starts t before = grind (arith, nat_tests)

    covers : (l : List Point) → PointsRise (l ++ q ∷ ys) → is_covered (l ++ q ∷ ys) from to ≡ is_covered (q ∷ ys) from to
    covers [] h = refl
    covers (x ∷ l) h =
        let before = among_after x (l ++ q ∷ ys) q h (among_middle l q ys) in
        rw (starts x.t (omega arith), starts q.t on, last_on x l q ys) refl

-- a window that starts at a point or after it does not depend on what is before the point
pub alike_on : (step : Bool) (front back : List Point) (q : Point) (ys : List Point) (from to : ℕ)
    → PointsRise (front ++ q ∷ ys) → PointsRise (back ++ q ∷ ys) → from < to → q.t ≤ from
    → IsAlike step (front ++ q ∷ ys) (back ++ q ∷ ys) from to
alike_on step front back q ys from to rises also some on =
    let one = begins_on step front q ys from to rises some on in
    let two = begins_on step back q ys from to also some on in
    record {
      covered = one.covered ∙ sym two.covered;
      start = one.start ∙ sym two.start;
      end = one.end ∙ sym two.end;
      inside_is = one.inside_is ∙ sym two.inside_is;
      counted_is = one.counted_is ∙ sym two.counted_is;
    }

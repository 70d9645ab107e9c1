-- Where a window has a value.
use Rattle.std.proofs.Common.{◌≡◌, ℕ, ◌≤◌, Bool, true, false, cond, nat_eq, nat_lt, nat_le, ℤ, List, [], ◌∷◌, ◌++◌, Option, None, Some, refl, arith}
use Rattle.std.specs.Prelude.{◌↔◌, is_some}
use Rattle.std.proofs.lemmas.Bool.{and_parts, false≢true, le-ltb, leb-true}
use Rattle.trend_num.specs.{Measure, Point, Reading}
use Rattle.trend_num.specs.declared.measure.Measure.TheVariants.{Area, Avg, Total, Low, High, Count, First, Last}
use Rattle.trend_num.specs.declared.reading.Reading.TheVariants.{Exact, Flat}
use Rattle.trend_model.specs.{between, read_at, read_from, value_read, end_at, is_covered, last_time_from, measured, shape, window_value}
use Rattle.trend_model.proofs.WindowLaw.{inside}

-- from a point on a read has a value
pub value_from : (step : Bool) (p : Point) (ps : List Point) (t : ℕ)
    → is_some (value_read (read_from step p ps t)) ≡ true
value_from step p [] t =
    elim (nat_eq p.t t) as
    (λ b. is_some (value_read (cond b (Exact p.v) (Flat p.v))) ≡ true) [ true ↦ refl | false ↦ refl ]
value_from step p (q ∷ ps) t =
    some_of_three (nat_eq p.t t) (nat_lt t q.t) step (read_from step q ps t) (value_from step q ps t)
  where
    some_of_three : (here before step : Bool) (r : Reading) → is_some (value_read r) ≡ true
        → is_some (value_read (cond here (Exact p.v) (cond before (between step p q t) r))) ≡ true
    some_of_three true before step r h = refl
    some_of_three false true true r h = refl
    some_of_three false true false r h = refl
    some_of_three false false step r h = h

-- so a read in a covered window has one
pub covered_read : (step : Bool) (ps : List Point) (from to t : ℕ) → is_covered ps from to ≡ true → from ≤ t
    → is_some (value_read (read_at step ps t)) ≡ true
covered_read step [] from to t covered order = cc
covered_read step (p ∷ ps) from to t covered order =
    let starts : p.t ≤ from =
    leb-true p.t from ((and_parts (nat_le p.t from) (nat_le to (last_time_from p ps)) covered).0) in
    rw (le-ltb t p.t (omega arith)) (value_from step p ps t)

-- so its place in a shape is a point
end_of_some : (t : ℕ) (v : Option ℤ) → is_some v ≡ true → (p : Point) × (end_at t v ≡ p ∷ [])
end_of_some t (Some v) h = (record { t = t; v = v }, refl)
end_of_some t None h = absurd (false≢true h)

-- every measure has a value over a shape of two points or more
measure_of_two : (step : Bool) (m : Measure) (ps : List Point) (p : Point) (l : List Point) (q : Point)
    (from to : ℕ)
    → is_some (measured step m ps ((p ∷ l) ++ q ∷ []) from to) ≡ true
measure_of_two step Area ps p l q from to = refl
measure_of_two step Avg ps p l q from to = refl
measure_of_two step Total ps p l q from to = refl
measure_of_two false Low ps p l q from to = refl
measure_of_two true Low ps p [] q from to = refl
measure_of_two true Low ps p (x ∷ l) q from to = refl
measure_of_two false High ps p l q from to = refl
measure_of_two true High ps p [] q from to = refl
measure_of_two true High ps p (x ∷ l) q from to = refl
measure_of_two step Count ps p l q from to = refl
measure_of_two step First ps p l q from to = refl
measure_of_two step Last ps p l q from to = refl

-- so it has one in a window that starts and ends in time
covered_value : (step : Bool) (m : Measure) (p : Point) (ps : List Point) (from to : ℕ) → p.t ≤ from
    → p.t ≤ to
    → is_some (measured step m (p ∷ ps) (shape step (p ∷ ps) from to) from to) ≡ true
covered_value step m p ps from to starts ends = grind (arith, inside, end_of_some, value_from, le-ltb, measure_of_two)

-- a window has a value exactly where it is covered
none_is_uncovered : (step : Bool) (m : Measure) (ps : List Point) (from to : ℕ) → from ≤ to
    → window_value step m ps from to ≡ None
    → is_covered ps from to ≡ false
none_is_uncovered step m [] from to order none = refl
none_is_uncovered step m (p ∷ ps) from to order none =
    by_test (is_covered (p ∷ ps) from to) refl
  where
    by_test : (b : Bool) → is_covered (p ∷ ps) from to ≡ b → b ≡ false
    by_test false e = refl
    by_test true e =
        let starts : p.t ≤ from =
        leb-true p.t from ((and_parts (nat_le p.t from) (nat_le to (last_time_from p ps)) e).0) in
        let some = covered_value step m p ps from to starts (omega arith) in
        let is_none : measured step m (p ∷ ps) (shape step (p ∷ ps) from to) from to ≡ None = rw e at none in
        absurd (false≢true (rw is_none at some))

uncovered_is_none : (step : Bool) (m : Measure) (ps : List Point) (from to : ℕ)
    → is_covered ps from to ≡ false
    → window_value step m ps from to ≡ None
uncovered_is_none step m ps from to outside = rw outside refl

pub window_value-none : (step : Bool) (m : Measure) (ps : List Point) (from to : ℕ) → from ≤ to
    → (window_value step m ps from to ≡ None) ↔ (is_covered ps from to ≡ false)
window_value-none step m ps from to order = grind (arith, none_is_uncovered, uncovered_is_none)

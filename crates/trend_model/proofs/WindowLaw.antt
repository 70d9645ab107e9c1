-- Windows of a list of points that meet.
use Rattle.std.proofs.Common.{◌≡◌, ℕ, ◌+◌, ◌<◌, ◌≤◌, inl, inr, ℤ, pos, ◌+ℤ◌, Bool, true, false, cond, nat_lt, nat_le, List, [], ◌∷◌, ◌++◌, length, Some, refl, sym, ap, ap₂, ◌∙◌, append_assoc, append-nil, arith}
use Rattle.std.specs.Prelude.{◌&&◌}
use Rattle.std.specs.List.{filter}
use Rattle.std.proofs.lemmas.Bool.{lt-ltb, le-ltb, and_parts, and_from}
use Rattle.std.proofs.lemmas.Bool.Decides.{nat_tests}
use Rattle.std.proofs.lemmas.Int.{ints}
use Rattle.std.proofs.lemmas.List.Elements.{filter-append}
use Rattle.trend_num.specs.{Measure, Point}
use Rattle.trend_num.specs.declared.measure.Measure.TheVariants.{Area, Count}
use Rattle.trend_model.specs.{IsAmong, PointsRise, RisesAfter, read_at, value_read, area, end_at, is_covered, measured, piece, shape, window_value, last_time_from}
use Rattle.trend_model.proofs.ReadLaw.{among_after, among_middle, read_at_point}

-- ---- areas

assoc : (a b c : ℤ) → a +ℤ (b +ℤ c) ≡ (a +ℤ b) +ℤ c
assoc a b c = omega (arith, ints)

nothing_first : (a : ℤ) → a ≡ pos 0 +ℤ a
nothing_first a = omega (arith, ints)

-- the area under points is that up to one of them and that from it on
pub area_parts : (step : Bool) (xs : List Point) (p : Point) (ys : List Point)
    → area step (xs ++ p ∷ ys) ≡ area step (xs ++ p ∷ []) +ℤ area step (p ∷ ys)
area_parts step [] p ys = nothing_first (area step (p ∷ ys))
area_parts step (x ∷ []) p ys = ap (λ a. a +ℤ area step (p ∷ ys)) (nothing_last (piece step x p))
  where
    nothing_last : (a : ℤ) → a ≡ a +ℤ pos 0
    nothing_last a = omega (arith, ints)
area_parts step (x ∷ y ∷ xs) p ys =
    ap (λ a. piece step x y +ℤ a) (area_parts step (y ∷ xs) p ys)
    ∙ assoc (piece step x y) (area step (y ∷ xs ++ p ∷ [])) (area step (p ∷ ys))

-- ---- the points of two windows that meet

-- strictly between two times
abbrev pub inside : ℕ → ℕ → Point → Bool
inside from to p = nat_lt from p.t && nat_lt p.t to

-- two tests that agree on these points keep the same ones
filter_same : (f g : Point → Bool) (ps : List Point) → ((x : Point) → IsAmong x ps → f x ≡ g x)
    → filter f ps ≡ filter g ps
filter_same f g [] same = refl
filter_same f g (x ∷ xs) same =
    rw (same x (inl refl), filter_same f g xs (λ y in_it. same y (inr in_it))) refl

-- a test that fails on these points keeps none
filter_none : (f : Point → Bool) (ps : List Point) → ((x : Point) → IsAmong x ps → f x ≡ false)
    → filter f ps ≡ []
filter_none f [] fails = refl
filter_none f (x ∷ xs) fails = rw (fails x (inl refl)) (filter_none f xs (λ y in_it. fails y (inr in_it)))

-- a point of a list parts it
pub parted : (ps : List Point) (p : Point) → IsAmong p ps
    → (xs : List Point) × ((ys : List Point) × (ps ≡ xs ++ p ∷ ys))
parted [] p in_it = absurd in_it
parted (x ∷ ps) p in_it =
    elim in_it [
      | inl same ↦ ([], (ps, ap (λ y. y ∷ ps) (sym same)))
      | inr later ↦ let rest = parted ps p later in (x ∷ rest.0, (rest.1.0, ap (λ l. x ∷ l) rest.1.1))
    ]

-- the rest of a rising list rises
pub rises_rest : (x : Point) (xs : List Point) → RisesAfter x xs → PointsRise xs
rises_rest x [] rises = tt
rises_rest x (y ∷ xs) rises = rises.1

-- what comes before a point of a rising list is before it in time, and what comes after it is after it
pub before_middle : (xs : List Point) (p : Point) (ys : List Point) → PointsRise (xs ++ p ∷ ys) → (x : Point)
    → IsAmong x xs → x.t < p.t
before_middle [] p ys rises x in_it = absurd in_it
before_middle (z ∷ xs) p ys rises x in_it =
    elim in_it [
      | inl same ↦ rw same (among_after z (xs ++ p ∷ ys) p rises (among_middle xs p ys))
      | inr later ↦ before_middle xs p ys (rises_rest z (xs ++ p ∷ ys) rises) x later
    ]

pub after_middle : (xs : List Point) (p : Point) (ys : List Point) → PointsRise (xs ++ p ∷ ys) → (y : Point)
    → IsAmong y ys → p.t < y.t
after_middle [] p ys rises y in_it = among_after p ys y rises in_it
after_middle (z ∷ xs) p ys rises y in_it = after_middle xs p ys (rises_rest z (xs ++ p ∷ ys) rises) y in_it

-- the tests of a point before or after the middle of a window
first_half : (from middle to t : ℕ) → middle < to → t < middle
    → (nat_lt from t && nat_lt t to) ≡ (nat_lt from t && nat_lt t middle)
first_half from middle to t high before = rw (lt-ltb t to (omega arith), lt-ltb t middle before) refl

second_half : (from middle to t : ℕ) → from < middle → middle < t
    → (nat_lt from t && nat_lt t to) ≡ (nat_lt middle t && nat_lt t to)
second_half from middle to t low after = rw (lt-ltb from t (omega arith), lt-ltb middle t after) refl

not_first : (from middle t : ℕ) → middle ≤ t → (nat_lt from t && nat_lt t middle) ≡ false
not_first from middle t after = grind (arith, nat_tests)

not_second : (middle to t : ℕ) → t ≤ middle → (nat_lt middle t && nat_lt t to) ≡ false
not_second middle to t before = rw (le-ltb middle t before) refl

-- what is strictly inside a window is what is inside up to a point, this point, and what is inside from it on
pub inside_parts : (xs : List Point) (p : Point) (ys : List Point) (from to : ℕ) → PointsRise (xs ++ p ∷ ys)
    → from < p.t → p.t < to
    → filter (inside from to) (xs ++ p ∷ ys)
    ≡ filter (inside from p.t) (xs ++ p ∷ ys) ++ p ∷ filter (inside p.t to) (xs ++ p ∷ ys)
inside_parts xs p ys from to rises low high =
    let before = before_middle xs p ys rises in
    let after = after_middle xs p ys rises in
    let whole : filter (inside from to) (xs ++ p ∷ ys)
    ≡ filter (inside from p.t) xs ++ p ∷ filter (inside p.t to) ys =
    grind (arith, filter-append, lt-ltb, filter_same, first_half, second_half) in
    let first : filter (inside from p.t) (xs ++ p ∷ ys) ≡ filter (inside from p.t) xs =
    filter-append (inside from p.t) xs (p ∷ ys)
    ∙ (grind (arith, filter_none, not_first, not_before, append-nil)) in
    let second : filter (inside p.t to) (xs ++ p ∷ ys) ≡ filter (inside p.t to) ys =
    grind (arith, filter-append, filter_none, not_second) in
    whole ∙ sym (ap₂ (λ l m. l ++ p ∷ m) first second)
  where
    not_before : (y : Point) → IsAmong y (p ∷ ys) → p.t ≤ y.t
    not_before y in_it = grind (arith, after_middle)

-- ---- areas of windows that meet

-- the area of the shape of a window is that up to a point of the list and that from it on
shape_parts : (step : Bool) (ps : List Point) (p : Point) (from to : ℕ) → PointsRise ps → IsAmong p ps
    → from < p.t → p.t < to
    → area step (shape step ps from to)
    ≡ area step (shape step ps from p.t) +ℤ area step (shape step ps p.t to)
shape_parts step ps p from to rises in_it low high =
    let split = parted ps p in_it in
    let start = end_at from (value_read (read_at step ps from)) in
    let end = end_at to (value_read (read_at step ps to)) in
    let first = filter (inside from p.t) ps in
    let second = filter (inside p.t to) ps in
    let parts : filter (inside from to) ps ≡ first ++ p ∷ second = inside_of split.0 split.1.0 split.1.1 in
    let joined : shape step ps from to ≡ (start ++ first) ++ p ∷ (second ++ end) =
    ap (λ l. start ++ l ++ end) parts ∙ rearranged start first second end in
    rw (read_at_point step ps p rises in_it)
    (ap (area step) joined ∙ area_parts step (start ++ first) p (second ++ end))
  where
    inside_of : (xs ys : List Point) → ps ≡ xs ++ p ∷ ys
        → filter (inside from to) ps ≡ filter (inside from p.t) ps ++ p ∷ filter (inside p.t to) ps
    inside_of xs ys e = rw e (inside_parts xs p ys from to (rw e at rises) low high)

    rearranged : (a b c d : List Point) → (a ++ (b ++ p ∷ c)) ++ d ≡ (a ++ b) ++ p ∷ (c ++ d)
    rearranged a b c d = rw (← append_assoc a b (p ∷ c)) (append_assoc (a ++ b) (p ∷ c) d)

-- what a window's value says
is_measured : (step : Bool) (m : Measure) (ps : List Point) (from to : ℕ) (a : ℤ)
    → window_value step m ps from to ≡ Some a
    → (is_covered ps from to ≡ true) × (measured step m ps (shape step ps from to) from to ≡ Some a)
is_measured step m ps from to a value = grind arith

-- two windows that adjoin are covered where both together are
covered_both : (ps : List Point) (from middle to : ℕ) → is_covered ps from middle ≡ true
    → is_covered ps middle to ≡ true → is_covered ps from to ≡ true
covered_both [] from middle to first second = first
covered_both (p ∷ ps) from middle to first second =
    let starts = and_parts (nat_le p.t from) (nat_le middle (last_time_from p ps)) first in
    let ends = and_parts (nat_le p.t middle) (nat_le to (last_time_from p ps)) second in
    and_from (nat_le p.t from) (nat_le to (last_time_from p ps)) starts.0 ends.1

-- the areas of two windows that meet at a point of the list add up
pub area_adds : (step : Bool) (ps : List Point) (p : Point) (from to : ℕ) (a b : ℤ) → PointsRise ps
    → IsAmong p ps → from < p.t → p.t < to
    → window_value step Area ps from p.t ≡ Some a → window_value step Area ps p.t to ≡ Some b
    → window_value step Area ps from to ≡ Some (a +ℤ b)
area_adds step ps p from to a b rises in_it low high first second =
    grind (arith, is_measured, covered_both, shape_parts)

-- ---- counts of windows that adjoin

-- at or after a time, and before another
abbrev within : ℕ → ℕ → Point → Bool
within from to p = nat_le from p.t && nat_lt p.t to

one_within : (from middle to t : ℕ) → from ≤ middle → middle ≤ to
    → cond {A = ℕ} (nat_le from t && nat_lt t to) 1 0
    ≡ cond {A = ℕ} (nat_le from t && nat_lt t middle) 1 0 + cond {A = ℕ} (nat_le middle t && nat_lt t to) 1 0
one_within from middle to t low high = grind (arith, nat_tests)

length_of_cond : (b : Bool) (x : Point) (l : List Point)
    → length (cond b (x ∷ l) l) ≡ cond {A = ℕ} b 1 0 + length l
length_of_cond true x l = omega arith
length_of_cond false x l = omega arith

count_parts : (ps : List Point) (from middle to : ℕ) → from ≤ middle → middle ≤ to
    → length (filter (within from to) ps)
    ≡ length (filter (within from middle) ps) + length (filter (within middle to) ps)
count_parts [] from middle to low high = omega arith
count_parts (x ∷ xs) from middle to low high =
    let rest = count_parts xs from middle to low high in
    let here = one_within from middle to x.t low high in
    let whole = length_of_cond (within from to x) x (filter (within from to) xs) in
    let first = length_of_cond (within from middle x) x (filter (within from middle) xs) in
    let second = length_of_cond (within middle to x) x (filter (within middle to) xs) in
    omega (arith, rest, here, whole, first, second)

pub count_adds : (step : Bool) (ps : List Point) (from middle to : ℕ) (a b : ℤ) → from ≤ middle → middle ≤ to
    → window_value step Count ps from middle ≡ Some a → window_value step Count ps middle to ≡ Some b
    → window_value step Count ps from to ≡ Some (a +ℤ b)
count_adds step ps from middle to a b low high first second =
    let one = is_measured step Count ps from middle a first in
    let two = is_measured step Count ps middle to b second in
    let one_is : pos (length (filter (within from middle) ps)) ≡ a = cc (one.1) in
    let two_is : pos (length (filter (within middle to) ps)) ≡ b = cc (two.1) in
    rw (
      covered_both ps from middle to one.0 two.0,
      count_parts ps from middle to low high,
      ← one_is,
      ← two_is,
    ) refl

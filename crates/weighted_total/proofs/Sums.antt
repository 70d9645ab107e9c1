-- Totals of lists of points.
use Rattle.std.proofs.Common.{◌≡◌, ℕ, ◌+◌, ◌-◌, ◌*◌, ◌≤◌, ℤ, pos, ◌+ℤ◌, Bool, true, false, List, [], ◌∷◌, ◌++◌, All, refl, sym, ap, ◌∙◌, fold, arith}
use Rattle.std.specs.Prelude.{unsigned_abs}
use Rattle.std.specs.Int.{int_min, int_max}
use Rattle.std.proofs.lemmas.Int.{ints, unsigned_abs-mul}
use Rattle.std.proofs.lemmas.List.Elements.{All-head, All-tail}
use Rattle.std.proofs.lemmas.Nat.{mul-le}
use Rattle.std.proofs.Math.Nat.{mul-le-mul_right}
use Rattle.trend_num.specs.{Point, InRange, largest_value, last_time}
use Rattle.trend_model.specs.{RisesAfter, area, greater, greatest_from, last_from, least_from, lesser, piece}
use Rattle.late_insert.specs.{greatest_of, least_of}

-- ---- areas of lists that are joined

sum_of_three : (a b c d : ℤ) → a +ℤ ((b +ℤ c) +ℤ d) ≡ ((a +ℤ b) +ℤ c) +ℤ d
sum_of_three a b c d = omega (arith, ints)

nothing_before : (a b : ℤ) → a +ℤ b ≡ (pos 0 +ℤ a) +ℤ b
nothing_before a b = omega (arith, ints)

-- the area under two lists is that under each, and that between them
pub area_joined : (step : Bool) (p : Point) (xs : List Point) (q : Point) (ys : List Point)
    → area step ((p ∷ xs) ++ q ∷ ys)
    ≡ (area step (p ∷ xs) +ℤ piece step (last_from p xs) q) +ℤ area step (q ∷ ys)
area_joined step p [] q ys = nothing_before (piece step p q) (area step (q ∷ ys))
area_joined step p (x ∷ xs) q ys =
    ap (λ a. piece step p x +ℤ a) (area_joined step x xs q ys)
    ∙ sum_of_three (piece step p x) (area step (x ∷ xs)) (piece step (last_from x xs) q) (area step (q ∷ ys))

-- the last of two lists is that of the second
pub last_joined : (p : Point) (xs : List Point) (q : Point) (ys : List Point)
    → last_from p (xs ++ q ∷ ys) ≡ last_from q ys
last_joined p [] q ys = refl
last_joined p (x ∷ xs) q ys = last_joined x xs q ys

-- ---- how large an area is

-- the greatest amount of the area of a piece, by its length in time
piece_small : (step : Bool) (p q : Point) → InRange p → InRange q → p.t ≤ q.t
    → unsigned_abs (piece step p q) ≤ (q.t - p.t) * (2 * largest_value)
piece_small false p q first second order =
    let high : unsigned_abs (p.v +ℤ q.v) ≤ 2 * largest_value =
    omega (arith, ints, first.value, second.value) in
    rw unsigned_abs-mul
    (mul-le (q.t - p.t) (unsigned_abs (p.v +ℤ q.v)) (q.t - p.t) (2 * largest_value) (omega arith) high)
piece_small true p q first second order =
    let high : unsigned_abs (p.v +ℤ p.v) ≤ 2 * largest_value = omega (arith, ints, first.value) in
    rw unsigned_abs-mul
    (mul-le (q.t - p.t) (unsigned_abs (p.v +ℤ p.v)) (q.t - p.t) (2 * largest_value) (omega arith) high)

pub piece_bounded : (step : Bool) (p q : Point) → InRange p → InRange q → p.t ≤ q.t
    → unsigned_abs (piece step p q) ≤ last_time * (2 * largest_value)
piece_bounded step p q first second order = grind (arith, piece_small, mul-le-mul_right)

-- the times of a rising list end where they begin or later
pub last_later : (p : Point) (xs : List Point) → RisesAfter p xs → p.t ≤ (last_from p xs).t
last_later p [] rises = omega arith
last_later p (x ∷ xs) rises = omega (arith, rises.0, last_later x xs rises.1)

abs_of_sum : (a b : ℤ) (m n : ℕ) → unsigned_abs a ≤ m → unsigned_abs b ≤ n → unsigned_abs (a +ℤ b) ≤ m + n
abs_of_sum a b m n first second = omega (arith, ints)

-- an area is at most twice the largest value times its length in time
area_of_span : (step : Bool) (p : Point) (xs : List Point) → RisesAfter p xs → All (λ q. InRange q) (p ∷ xs)
    → unsigned_abs (area step (p ∷ xs)) ≤ ((last_from p xs).t - p.t) * (2 * largest_value)
area_of_span step p [] rises range = omega arith
area_of_span step p (x ∷ xs) rises range =
    let In : Point → Type 0 = λ q. InRange q in
    let rest = All-tail In p (x ∷ xs) range in
    let first =
    piece_small step p x (All-head In p (x ∷ xs) range) (All-head In x xs rest)
    (omega (arith, rises.0)) in
    let more = area_of_span step x xs rises.1 rest in
    let sum = abs_of_sum (piece step p x) (area step (x ∷ xs)) ((x.t - p.t) * (2 * largest_value))
    (((last_from x xs).t - x.t) * (2 * largest_value)) first more in
    let later = last_later x xs rises.1 in
    let span : (x.t - p.t) + ((last_from x xs).t - x.t) ≡ (last_from x xs).t - p.t =
    omega (arith, rises.0, later) in
    let times = ap (λ n. n * (2 * largest_value)) span in
    omega (arith, sum, times)

-- the last of points from a time on is from it on
pub last_from_all : (t : ℕ) (p : Point) (xs : List Point) → All (λ q. t ≤ q.t) (p ∷ xs)
    → t ≤ (last_from p xs).t
last_from_all t p [] from = All-head (λ q. t ≤ q.t) p [] from
last_from_all t p (x ∷ xs) from = last_from_all t x xs (All-tail (λ q. t ≤ q.t) p (x ∷ xs) from)

-- the last of points in range is in range
pub last_in_range : (p : Point) (xs : List Point) → All (λ q. InRange q) (p ∷ xs) → InRange (last_from p xs)
last_in_range p [] range = All-head (λ q. InRange q) p [] range
last_in_range p (x ∷ xs) range = last_in_range x xs (All-tail (λ q. InRange q) p (x ∷ xs) range)

-- so it is never larger than over all times
pub area_small : (step : Bool) (p : Point) (xs : List Point) → RisesAfter p xs → All (λ q. InRange q) (p ∷ xs)
    → unsigned_abs (area step (p ∷ xs)) ≤ last_time * (2 * largest_value)
area_small step p xs rises range = grind (arith, last_in_range, mul-le-mul_right, area_of_span)

-- ---- least and greatest values of lists that are joined

lesser_assoc : (a b c : ℤ) → lesser (lesser a b) c ≡ lesser a (lesser b c)
lesser_assoc a b c = grind (arith, ints)

greater_assoc : (a b c : ℤ) → greater (greater a b) c ≡ greater a (greater b c)
greater_assoc a b c = grind (arith, ints)

pub least_joined : (p : Point) (xs : List Point) (q : Point) (ys : List Point)
    → least_from p (xs ++ q ∷ ys) ≡ lesser (least_from p xs) (least_from q ys)
least_joined p [] q ys = refl
least_joined p (x ∷ xs) q ys =
    ap (lesser p.v) (least_joined x xs q ys) ∙ sym (lesser_assoc p.v (least_from x xs) (least_from q ys))

pub greatest_joined : (p : Point) (xs : List Point) (q : Point) (ys : List Point)
    → greatest_from p (xs ++ q ∷ ys) ≡ greater (greatest_from p xs) (greatest_from q ys)
greatest_joined p [] q ys = refl
greatest_joined p (x ∷ xs) q ys =
    ap (greater p.v) (greatest_joined x xs q ys)
    ∙ sym (greater_assoc p.v (greatest_from x xs) (greatest_from q ys))

-- ---- the totals of pages

pub int_min_is : (a b : ℤ) → int_min a b ≡ lesser a b
int_min_is a b = grind (arith, ints)

pub int_max_is : (a b : ℤ) → int_max a b ≡ greater a b
int_max_is a b = grind (arith, ints)

-- a fold is the least of where it begins and of the rest
folded_least : (a : ℤ) (p : Point) (ps : List Point)
    → fold (λ low x. int_min low x.v) a (p ∷ ps) ≡ lesser a (least_from p ps)
folded_least a p [] = int_min_is a p.v
folded_least a p (q ∷ ps) =
    folded_least (int_min a p.v) q ps
    ∙ (ap (λ b. lesser b (least_from q ps)) (int_min_is a p.v) ∙ lesser_assoc a p.v (least_from q ps))

folded_greatest : (a : ℤ) (p : Point) (ps : List Point)
    → fold (λ high x. int_max high x.v) a (p ∷ ps) ≡ greater a (greatest_from p ps)
folded_greatest a p [] = int_max_is a p.v
folded_greatest a p (q ∷ ps) =
    folded_greatest (int_max a p.v) q ps
    ∙ (ap (λ b. greater b (greatest_from q ps)) (int_max_is a p.v) ∙ greater_assoc a p.v (greatest_from q ps))

pub least_of_is : (p : Point) (ps : List Point) → least_of (p ∷ ps) ≡ least_from p ps
least_of_is p [] = refl
least_of_is p (q ∷ ps) = folded_least p.v q ps

pub greatest_of_is : (p : Point) (ps : List Point) → greatest_of (p ∷ ps) ≡ greatest_from p ps
greatest_of_is p [] = refl
greatest_of_is p (q ∷ ps) = folded_greatest p.v q ps

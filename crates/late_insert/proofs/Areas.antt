-- Totals of a list of points, and of one point more.
use Rattle.std.proofs.Common.{◌≡◌, Bool, true, false, ℕ, zero, suc, ◌+◌, ◌-◌, ◌*◌, ◌<◌, ◌≤◌, ℤ, pos, ◌+ℤ◌, ◌*ℤ◌, List, [], ◌∷◌, ◌++◌, length, get_or, take, All, ap, ◌∙◌, arith}
use Rattle.std.specs.Prelude.{unsigned_abs, FitsSigned}
use Rattle.std.specs.Int.{int_min, int_max, w128}
use Rattle.std.proofs.lemmas.Int.{ints, unsigned_abs-mul, fits_signed_from_abs}
use Rattle.std.proofs.lemmas.List.{get_or-take, take_more, length-take-le}
use Rattle.std.proofs.lemmas.List.Sums.{fold_push}
use Rattle.std.proofs.lemmas.List.Elements.{All-head, All-tail}
use Rattle.std.proofs.lemmas.Nat.{mul-le}
use Rattle.trend_num.specs.{Point, InRange, last_time, largest_value}
use Rattle.trend_model.specs.{area, piece}
use Rattle.late_insert.specs.{Extreme, least_of, greatest_of, extreme_of, outer}
use Rattle.late_insert.specs.declared.total.Extreme.TheVariants.{Least, Greatest}

-- ---- one point more

add_assoc_ℤ : (a b c : ℤ) → a +ℤ (b +ℤ c) ≡ (a +ℤ b) +ℤ c
add_assoc_ℤ a b c = omega (arith, ints)

zero_apart : (a : ℤ) → a +ℤ pos 0 ≡ pos 0 +ℤ a
zero_apart a = omega (arith, ints)

-- the area grows by the last piece
pub area_put : (step : Bool) (l : List Point) (i : ℕ) (d y : Point) → i + 1 ≡ length l
    → area step (l ++ y ∷ []) ≡ area step l +ℤ piece step (get_or l i d) y
area_put step [] i d y end = absurd (omega arith)
area_put step (x ∷ []) zero d y end = zero_apart (piece step x y)
area_put step (x ∷ []) (suc i) d y end = absurd (omega arith)
area_put step (x ∷ z ∷ l) zero d y end = absurd (omega arith)
area_put step (x ∷ z ∷ l) (suc i) d y end =
    ap (λ a. piece step x z +ℤ a) (area_put step (z ∷ l) i d y (omega arith))
    ∙ add_assoc_ℤ (piece step x z) (area step (z ∷ l)) (piece step (get_or (z ∷ l) i d) y)

-- what a list has up to a place, and one more
pub area_more : (step : Bool) (l : List Point) (i : ℕ) (d : Point) → 0 < i → i < length l
    → area step (take (i + 1) l) ≡ area step (take i l) +ℤ piece step (get_or l (i - 1) d) (get_or l i d)
area_more step l i d some within =
    let long = length-take-le i l (omega arith) in
    let last : get_or (take i l) (i - 1) d ≡ get_or l (i - 1) d = get_or-take i l (i - 1) d (omega arith) in
    ap (area step) (take_more l i d within)
    ∙ (area_put step (take i l) (i - 1) d (get_or l i d) (omega arith)
    ∙ ap (λ x. area step (take i l) +ℤ piece step x (get_or l i d)) last)

pub least_push : (l : List Point) (y : Point) → 0 < length l → least_of (l ++ y ∷ []) ≡ int_min
    (least_of l) y.v
least_push [] y some = absurd (omega arith)
least_push (x ∷ l) y some = fold_push (λ (m : ℤ) (z : Point). int_min m z.v) x.v l y

pub greatest_push : (l : List Point) (y : Point) → 0 < length l → greatest_of (l ++ y ∷ []) ≡ int_max
    (greatest_of l) y.v
greatest_push [] y some = absurd (omega arith)
greatest_push (x ∷ l) y some = fold_push (λ (m : ℤ) (z : Point). int_max m z.v) x.v l y

extreme_push : (e : Extreme) (l : List Point) (p : Point) → 0 < length l
    → extreme_of e (l ++ p ∷ []) ≡ outer e (extreme_of e l) p.v
extreme_push Least = least_push
extreme_push Greatest = greatest_push

pub extreme_more : (e : Extreme) (l : List Point) (i : ℕ) (d : Point) → 0 < i → i < length l
    → extreme_of e (take (i + 1) l) ≡ outer e (extreme_of e (take i l)) (get_or l i d).v
extreme_more e l i d some within =
    let long = length-take-le i l (omega arith) in
    ap (extreme_of e) (take_more l i d within) ∙ extreme_push e (take i l) (get_or l i d) (omega arith)

-- ---- how large an area is

-- the greatest amount of the area of one piece
abbrev most : ℕ
most = last_time * (2 * largest_value)

-- a length of time times two values
product_small : (t : ℕ) (a b : ℤ) → t ≤ last_time → unsigned_abs a ≤ largest_value
    → unsigned_abs b ≤ largest_value
    → unsigned_abs (pos t *ℤ (a +ℤ b)) ≤ most
product_small t a b long first second =
    let high : unsigned_abs (a +ℤ b) ≤ 2 * largest_value = omega (arith, ints) in
    rw unsigned_abs-mul (mul-le t (unsigned_abs (a +ℤ b)) last_time (2 * largest_value) long high)

pub piece_small : (step : Bool) (p q : Point) → InRange p → InRange q → unsigned_abs (piece step p q) ≤ most
piece_small false p q first second = product_small (q.t - p.t) p.v q.v (omega (arith, second.time))
    first.value second.value
piece_small true p q first second = product_small (q.t - p.t) p.v p.v (omega (arith, second.time)) first.value
    first.value

abs_sum : (a b : ℤ) (m n : ℕ) → unsigned_abs a ≤ m → unsigned_abs b ≤ n → unsigned_abs (a +ℤ b) ≤ m + n
abs_sum a b m n first second = omega (arith, ints)

pub area_small : (step : Bool) (l : List Point) → All InRange l → unsigned_abs (area step l) ≤ length l * most
area_small step [] range = omega arith
area_small step (x ∷ []) range = omega arith
area_small step (x ∷ y ∷ l) range =
    let rest = All-tail InRange x (y ∷ l) range in
    let line = piece_small step x y (All-head InRange x (y ∷ l) range) (All-head InRange y l rest) in
    let sum = abs_sum (piece step x y) (area step (y ∷ l)) most (suc (length l) * most) line
    (area_small step (y ∷ l) rest) in
    omega (arith, sum)

-- the area of a page fits its type
pub area_fits : (step : Bool) (l : List Point) → All InRange l → length l ≤ 128
    → FitsSigned w128 (area step l)
area_fits step l range few = fits_signed_from_abs w128 (area step l) (omega (arith, area_small step l range))

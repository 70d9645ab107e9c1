-- Measures of the points between two ends, and of these.
use Rattle.std.proofs.Common.{◌≡◌, ℕ, ◌-◌, ◌*◌, ◌^◌, ◌≤◌, ℤ, pos, ◌+ℤ◌, Bool, true, List, [], ◌∷◌, ◌++◌, Some, All, length, refl, sym, ap, ◌∙◌, arith}
use Rattle.std.specs.Prelude.{count_by, nat_lt, unsigned_abs}
use Rattle.std.proofs.lemmas.Int.{ints}
use Rattle.std.proofs.lemmas.List.{get_or_append_left, length-append}
use Rattle.std.proofs.lemmas.List.Edits.{length-between}
use Rattle.trend_num.specs.{Rec, Point, InRange, largest_value, last_time}
use Rattle.trend_model.specs.{IsRising, points_of, area, but_last, greatest_from, last_from, least_from, of_first, piece, taken_values}
use Rattle.trend_model.proofs.ReadLaw.{points_rise}
use Rattle.interp_read.proofs.RisingPoints.{IsGapAt, gap_at}
use Rattle.weighted_total.specs.{Ends, AreEnds, counted, inner, outline}
use Rattle.weighted_total.proofs.EndsOf.{counted_places, gaps_rise}
use Rattle.weighted_total.proofs.Sums.{area_joined, area_small, last_in_range, last_joined, piece_bounded}
use Rattle.weighted_total.proofs.Walking.{rises_front, rises_seam}

-- the area under all but the last point, and that to the last
pub area_to_end : (step : Bool) (p : Point) (xs : List Point) (q : Point)
    → area step (p ∷ xs) +ℤ piece step (last_from p xs) q ≡ area step ((p ∷ xs) ++ q ∷ [])
area_to_end step p xs q = no_more (area step (p ∷ xs) +ℤ piece step (last_from p xs) q)
    ∙ sym (area_joined step p xs q [])
  where
    no_more : (a : ℤ) → a ≡ a +ℤ pos 0
    no_more a = omega (arith, ints)

-- it can be rounded
pub outline_small : (step : Bool) (ps : List Point) (e : Ends) → AreEnds ps e
    → unsigned_abs (area step (outline ps e)) ≤ 10 ^ 30
outline_small step ps e are = grind (arith, area_small)

pub end_in_range : (ps : List Point) (e : Ends) → AreEnds ps e → InRange e.end
end_in_range ps e are =
    rw (last_joined e.start (inner ps e) e.end []) at
    (last_in_range e.start (inner ps e ++ e.end ∷ []) are.range)

all_front : (P : Point → Type 0) (xs ys : List Point) → All P (xs ++ ys) → All P xs
all_front P xs ys all = grind (arith, get_or_append_left, length-append)

front_in_range : (ps : List Point) (e : Ends) → AreEnds ps e → All (λ p. InRange p) (e.start ∷ inner ps e)
front_in_range ps e are = all_front (λ p. InRange p) (e.start ∷ inner ps e) (e.end ∷ []) are.range

-- the sums of the area of a shape
pub record AreSums (twice seam whole : ℤ) : Type 0 where
  pub small : unsigned_abs twice ≤ last_time * (2 * largest_value)
  pub small_seam : unsigned_abs seam ≤ last_time * (2 * largest_value)
  pub whole_is : twice +ℤ seam ≡ whole
  pub small_whole : unsigned_abs whole ≤ 10 ^ 30

pub sums_of : (step : Bool) (ps : List Point) (e : Ends) (twice : ℤ) (last : Point) (seam : ℤ) → AreEnds ps e
    → twice ≡ area step (e.start ∷ inner ps e) → last ≡ last_from e.start (inner ps e) → InRange last
    → seam ≡ piece step last e.end
    → AreSums twice seam (area step (outline ps e))
sums_of step ps e twice last seam are twice_is last_is in_range seam_is =
    grind (arith, rises_seam, area_small, rises_front, front_in_range, piece_bounded, end_in_range, area_to_end, outline_small)

-- all points but the last
but_last_push : (p : Point) (xs : List Point) (q : Point) → but_last ((p ∷ xs) ++ q ∷ []) ≡ p ∷ xs
but_last_push p [] q = refl
but_last_push p (x ∷ xs) q = ap (λ l. p ∷ l) (but_last_push x xs q)

-- the least and the greatest value that a stair takes, and a line
pub least_of_stair : (p : Point) (xs : List Point) (q : Point)
    → of_first least_from (taken_values true ((p ∷ xs) ++ q ∷ [])) ≡ Some (least_from p xs)
least_of_stair p xs q = ap (of_first least_from) (but_last_push p xs q)

pub greatest_of_stair : (p : Point) (xs : List Point) (q : Point)
    → of_first greatest_from (taken_values true ((p ∷ xs) ++ q ∷ [])) ≡ Some (greatest_from p xs)
greatest_of_stair p xs q = ap (of_first greatest_from) (but_last_push p xs q)

-- how many points are counted
pub count_is : (l : List Rec) (from to a b : ℕ) → IsRising l → from ≤ to
    → a ≡ count_by (λ r. nat_lt r.point.t from) l
    → b ≡ count_by (λ r. nat_lt r.point.t to) l → (a ≤ b) × (b - a ≡ length (counted (points_of l) from to))
count_is l from to a b rises order first second =
    let ps = points_of l in
    let rise = points_rise l rises in
    let gap_a : IsGapAt ps from a = rw first (gap_at from l rise) in
    let gap_b : IsGapAt ps to b = rw second (gap_at to l rise) in
    let places = counted_places ps from to a b order gap_a gap_b in
    (gaps_rise ps from to a b order gap_a gap_b, sym (ap length places ∙ length-between ps a b gap_b.within))

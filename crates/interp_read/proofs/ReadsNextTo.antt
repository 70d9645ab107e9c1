-- A read, by the points next to its time.
use Rattle.std.proofs.Common.{◌≡◌, ◌≢◌, ℕ, ◌<◌, ◌≤◌, Bool, List, [], ◌∷◌, ◌++◌, Option, None, Some, All, refl, sym, ap, ◌∙◌, subst, arith, append_assoc, append-nil}
use Rattle.std.specs.Prelude.{slice_get}
use Rattle.std.proofs.lemmas.Bool.{ne_eqb, le-ltb, lt-ltb}
use Rattle.std.proofs.lemmas.Int.{fits_signed_from_abs, to_z-of_z}
use Rattle.std.proofs.lemmas.List.Elements.{All-head}
use mir.Syntax.{w64}
use mir.Val.{of_z, to_z}
use Rattle.trend_num.specs.{Point, InRange}
use Rattle.trend_num.specs.declared.reading.Reading.TheVariants.{Exact, Flat, Nothing}
use Rattle.trend_model.specs.{IsAmong, PointsRise, between, read_at}
use Rattle.trend_model.proofs.ReadLaw.{among_middle, read_at-append, read_at_point, read_between}
use Rattle.interp_read.specs.{AreNeighbours}
use Rattle.interp_read.proofs.RisingPoints.{Before, From, among_all, first_parts, last_parts, no_first, no_last}

-- the last point before t is before it
pub before_is : (cs : List Point) (t : ℕ) (p : Point) (after : Option Point)
    → AreNeighbours cs t (Some p) after → p.t < t
before_is cs t p after near =
    let parts = last_parts near.earlier p near.last in
    among_all (Before t) near.earlier near.earlier_are p
    (subst (IsAmong p) (sym parts.1) (among_middle parts.0 p []))

-- and the first of the others is not
pub after_is : (cs : List Point) (t : ℕ) (before : Option Point) (q : Point)
    → AreNeighbours cs t before (Some q) → t ≤ q.t
after_is cs t before q near = grind (arith, first_parts, among_all, among_middle)

-- where there is a point
pub read_exact : (step : Bool) (cs : List Point) (t : ℕ) (before : Option Point) (q : Point)
    → AreNeighbours cs t before (Some q)
    → q.t ≡ t → read_at step cs t ≡ Exact q.v
read_exact step cs t before q near at_t = grind (arith, first_parts, among_middle, read_at_point)

-- before the first point
pub read_nothing : (step : Bool) (cs : List Point) (t : ℕ) (after : Option Point)
    → AreNeighbours cs t None after
    → ((q : Point) → after ≡ Some q → q.t ≢ t) → read_at step cs t ≡ Nothing
read_nothing step cs t after near other =
    let whole : cs ≡ near.later = near.whole ∙ ap (λ l. l ++ near.later) (no_last near.earlier near.last) in
    rw whole (by_first near.later near.later_are near.first)
  where
    by_first : (l : List Point) → All (From t) l → slice_get l 0 ≡ after → read_at step l t ≡ Nothing
    by_first [] from first = refl
    by_first (q ∷ l) from first =
        let at_q : t ≤ q.t = All-head (From t) q l from in
        let differs : q.t ≢ t = other q (sym first) in
        rw (lt-ltb t q.t (omega arith)) refl

-- after the last point
pub read_flat : (step : Bool) (cs : List Point) (t : ℕ) (p : Point) → AreNeighbours cs t (Some p) None
    → read_at step cs t ≡ Flat p.v
read_flat step cs t p near =
    let early = before_is cs t p None near in
    let parts = last_parts near.earlier p near.last in
    let whole : cs ≡ near.earlier = grind (arith, no_first, append-nil) in
    let split : cs ≡ parts.0 ++ p ∷ [] = whole ∙ parts.1 in
    let rises : PointsRise (parts.0 ++ p ∷ []) = subst PointsRise split near.rises in
    rw split (grind (arith, read_at-append, le-ltb, ne_eqb))

-- between two points
pub read_inside : (step : Bool) (cs : List Point) (t : ℕ) (p q : Point) → AreNeighbours cs t (Some p) (Some q)
    → q.t ≢ t
    → read_at step cs t ≡ between step p q t
read_inside step cs t p q near differs =
    let early = before_is cs t p (Some q) near in
    let late = after_is cs t (Some p) q near in
    let last = last_parts near.earlier p near.last in
    let first = first_parts near.later q near.first in
    let split : cs ≡ last.0 ++ p ∷ q ∷ first.0 =
    grind (arith, append_assoc) in
    let rises : PointsRise (last.0 ++ p ∷ q ∷ first.0) = subst PointsRise split near.rises in
    rw split (read_between step last.0 first.0 p q t rises early (omega arith))

-- a value in range is its bits read back
pub value_back : (p : Point) → InRange p → to_z w64 (of_z w64 p.v) ≡ p.v
value_back p range = to_z-of_z w64 p.v (fits_signed_from_abs w64 p.v (omega (arith, range.value)))

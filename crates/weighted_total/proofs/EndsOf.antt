-- The ends of a window's shape, and the points inside.
use Rattle.std.proofs.Common.{◌≡◌, ℕ, zero, suc, ◌+◌, ◌-◌, ◌<◌, ◌≤◌, inl, inr, ℤ, pos, Bool, true, false, nat_lt, nat_le, List, [], ◌∷◌, ◌++◌, Option, None, Some, All, get_or, take, drop, refl, sym, ap, ap₂, ◌∙◌, subst, arith, append-nil}
use Rattle.std.specs.Prelude.{◌&&◌, count_by, slice_range}
use Rattle.std.specs.List.{filter}
use Rattle.std.specs.Option.{option_to_list}
use Rattle.std.proofs.lemmas.Bool.{and_left, and_parts, and_right, cases_lt, false≢true, le-leb, le-ltb, leb-true, lt-leb, lt-ltb}
use Rattle.std.proofs.lemmas.List.{get_or-drop, get_or-take, length-drop, length-take}
use Rattle.std.proofs.lemmas.List.Elements.{All-append, All-cons, All-drop, All-head, All-nil, All-take, All-weaker, filter-append}
use Rattle.std.proofs.lemmas.Slice.{between_is}
use Rattle.trend_num.specs.{Rec, Point, InRange, last_time}
use Rattle.trend_model.specs.{IsRising, points_of, IfThere, PointsRise, RisesAfter, last_point, read_at, value_read, end_at, is_covered, last_from, last_time_from, IsNotBefore}
use Rattle.trend_model.proofs.Covering.{covered_read}
use Rattle.trend_model.proofs.ReadLaw.{points_rise}
use Rattle.trend_model.proofs.WindowLaw.{inside, rises_rest}
use Rattle.interp_read.specs.{points_closed_by, AreNeighbours}
use Rattle.interp_read.proofs.ClosedPoints.{IsClosed, closed, closed_in_range, closed_rise}
use Rattle.interp_read.proofs.Listing.{kept_middle}
use Rattle.interp_read.proofs.RisingPoints.{Before, From, IsGapAt, first_parts, gap_at, no_first, no_last, rises_push}
use Rattle.interp_read.proofs.ReadsNextTo.{before_is}
use Rattle.weighted_total.proofs.Walking.{last_is}
use Rattle.weighted_total.proofs.Sums.{last_joined, last_from_all}
use Rattle.weighted_total.specs.{Ends, IsShape, counted}
use Rattle.interp_read.proofs.Readable.{readable, value_small}

-- ---- what a window covers

-- the time of the last point
pub last_time_is : (p : Point) (ps : List Point) (z : Point) → last_point (p ∷ ps) ≡ Some z
    → last_time_from p ps ≡ z.t
last_time_is p [] z last = let same : p ≡ z = cc in ap (λ x. x.t) same
last_time_is p (q ∷ ps) z last = last_time_is q ps z last

-- it ends at the last point or before
pub ends_before : (cs : List Point) (z : Point) (from to : ℕ) → last_point cs ≡ Some z
    → is_covered cs from to ≡ true → to ≤ z.t
ends_before [] z from to last covered = cc
ends_before (x ∷ xs) z from to last covered =
    let both = and_parts (nat_le x.t from) (nat_le to (last_time_from x xs)) covered in
    let reach = leb-true to (last_time_from x xs) both.1 in
    omega (arith, reach, last_time_is x xs z last)

-- what is not true is false
pub not_true : (b : Bool) → (b ≡ true → ⊥) → b ≡ false
not_true true never = absurd (never refl)
not_true false never = refl

-- where no point is from the end on, the window is not covered
pub uncovered_end : (cs : List Point) (from to : ℕ) (before after : Option Point)
    → AreNeighbours cs to before after → after ≡ None
    → is_covered cs from to ≡ false
uncovered_end cs from to None after near none =
    let front = no_last near.earlier near.last in
    let back = no_first near.later (near.first ∙ none) in
    rw (near.whole ∙ ap₂ (λ a b. a ++ b) front back) refl
uncovered_end cs from to (Some z) after near none =
    let back = no_first near.later (near.first ∙ none) in
    let whole : cs ≡ near.earlier = near.whole
    ∙ (ap (λ l. near.earlier ++ l) back ∙ append-nil near.earlier) in
    let last : last_point cs ≡ Some z = ap last_point whole ∙ near.last in
    let early = before_is cs to z after near in
    not_true (is_covered cs from to) (λ covered. let reach = ends_before cs z from to last covered in absurd
    (omega arith))

-- points from a time on end at it or after it
ends_from : (p : Point) (ps earlier : List Point) (q : Point) (more : List Point) (to : ℕ)
    → p ∷ ps ≡ earlier ++ q ∷ more
    → All (From to) (q ∷ more) → to ≤ last_time_from p ps
ends_from p ps [] q more to is from =
    let same : p ≡ q = cc in
    let rest : ps ≡ more = cc in
    let last = last_from_all to q more from in
    let time = last_time_is q more (last_from q more) (last_is q more) in
    rw (same, rest) (omega arith)
ends_from p ps (e ∷ es) q more to is from =
    let rest : ps ≡ es ++ q ∷ more = cc in
    let last = last_from_all to q more from in
    let joined = ap (λ (x : Point). x.t) (last_joined p es q more) in
    let time = last_time_is p (es ++ q ∷ more) (last_from p (es ++ q ∷ more)) (last_is p (es ++ q ∷ more)) in
    rw rest (omega arith)

-- a window with a value at its start and a point from its end on is covered
pub covered_by : (step : Bool) (cs : List Point) (from to : ℕ) (v : ℤ) (before : Option Point) (q : Point)
    → value_read (read_at step cs from) ≡ Some v → AreNeighbours cs to before (Some q)
    → is_covered cs from to ≡ true
covered_by step [] from to v before q value near = cc
covered_by step (p ∷ ps) from to v before q value near =
    let parts = first_parts near.later q near.first in
    let whole : p ∷ ps ≡ near.earlier ++ q ∷ parts.0 = near.whole ∙ ap (λ l. near.earlier ++ l) parts.1 in
    let reach = ends_from p ps near.earlier q parts.0 to whole
    (subst (All (From to)) parts.1 near.later_are) in
    elim (cases_lt from p.t) [
      | inl early ↦ let none = rw (lt-ltb from p.t early) at value in cc
      | inr starts ↦ rw (le-leb p.t from starts, le-leb to (last_time_from p ps) reach) refl
    ]

-- a read in a covered window has a value
pub value_there : (step : Bool) (cs : List Point) (from to t : ℕ) (v : Option ℤ)
    → is_covered cs from to ≡ true → from ≤ t
    → v ≡ value_read (read_at step cs t) → v ≡ None → ⊥
value_there step cs from to t v covered order is none =
    let some = covered_read step cs from to t covered order in
    false≢true (rw (sym is ∙ none) at some)

-- ---- the points inside

-- a gap for a later time is not before that for an earlier one
pub gaps_rise : (ps : List Point) (t u a b : ℕ) → t ≤ u → IsGapAt ps t a → IsGapAt ps u b → a ≤ b
gaps_rise ps t u a b order first second =
    elim (cases_lt b a) [
      | inl less ↦
          let d : Point = record { t = 0; v = pos 0 } in
          let long = length-take a ps in
          let rest = length-drop b ps in
          let early = first.before b d (omega (arith, first.within, long)) in
          let late = second.from 0 d (omega (arith, first.within, rest)) in
          let same_early = get_or-take a ps b d less in
          let same_late = get_or-drop b ps 0 d in
          let place : b + 0 ≡ b = omega arith in
          let before : (get_or ps b d).t < t = subst (λ x. x.t < t) same_early early in
          let from : u ≤ (get_or ps b d).t =
          subst (λ x. u ≤ x.t) (same_late ∙ ap (λ k. get_or ps k d) place) late in
          absurd (omega arith)
      | inr more ↦ more
    ]

-- what is strictly inside a window, by places
inside_places : (ps : List Point) (from to a b : ℕ) → IsGapAt ps (from + 1) a → IsGapAt ps to b
    → filter (inside from to) ps ≡ slice_range ps a b
inside_places ps from to a b first second =
    let f = inside from to in
    let early = All-weaker (Before (from + 1)) (λ p. f p ≡ false)
    (λ p h. grind (arith, and_left, le-ltb)) (take a ps) first.before in
    let late = All-weaker (From to) (λ p. f p ≡ false)
    (λ p h. and_right (nat_lt from p.t) (nat_lt p.t to) (le-ltb p.t to h)) (drop b ps) second.from in
    let low = All-take (From (from + 1)) (b - a) (drop a ps) first.from in
    let high : All (Before to) (slice_range ps a b) =
    rw (between_is ps a b) (All-drop (Before to) a (take b ps) second.before) in
    let middle : All (λ p. f p ≡ true) (slice_range ps a b) =
    λ k d within. let u = low k d within in let v = high k d within in
    rw (
      lt-ltb from (get_or (slice_range ps a b) k d).t (omega arith),
      lt-ltb (get_or (slice_range ps a b) k d).t to v,
    ) refl in
    kept_middle f ps a b early late middle

-- what is counted in a window, by places
pub counted_places : (ps : List Point) (from to a b : ℕ) → from ≤ to → IsGapAt ps from a → IsGapAt ps to b
    → counted ps from to ≡ slice_range ps a b
counted_places ps from to a b order first second =
    let f : Point → Bool = λ p. nat_le from p.t && nat_lt p.t to in
    let early = All-weaker (Before from) (λ p. f p ≡ false)
    (λ p h. and_left (nat_le from p.t) (nat_lt p.t to) (lt-leb from p.t h)) (take a ps) first.before in
    let late = All-weaker (From to) (λ p. f p ≡ false)
    (λ p h. and_right (nat_le from p.t) (nat_lt p.t to) (le-ltb p.t to h)) (drop b ps) second.from in
    let low = All-take (From from) (b - a) (drop a ps) first.from in
    let high : All (Before to) (slice_range ps a b) =
    rw (between_is ps a b) (All-drop (Before to) a (take b ps) second.before) in
    let middle : All (λ p. f p ≡ true) (slice_range ps a b) =
    λ k d within. rw (
      le-leb from (get_or (slice_range ps a b) k d).t (low k d within),
      lt-ltb (get_or (slice_range ps a b) k d).t to (high k d within),
    ) refl in
    kept_middle f ps a b early late middle

-- a held point that is added is not before the end of a covered window, so a test that fails from there on
-- passes it
-- over
passed_over : (f : Point → Bool) (held : Option Point) (cs ps : List Point) (from to : ℕ)
    → IsClosed held cs ps
    → is_covered cs from to ≡ true → ((q : Point) → to ≤ q.t → f q ≡ false) → filter f cs ≡ filter f ps
passed_over f held cs ps from to closing covered fails =
    ap (filter f) closing.whole
    ∙ (grind (arith, filter-append, none_more, append-nil))
  where
    none_more : (o : Option Point) → ((q : Point) → o ≡ Some q → held ≡ Some q)
        → filter f (option_to_list o) ≡ []
    none_more None of_held = refl
    none_more (Some q) of_held =
        let last = closing.ends q (of_held q refl) in
        let reach : to ≤ last.0.t = ends_before cs last.0 from to last.1.0 covered in
        rw (fails q (omega (arith, last.1.1))) refl

-- ---- the shape

-- points that are later than one rise after it
rises_from : (s : Point) (xs : List Point) → PointsRise xs → All (λ p. s.t < p.t) xs → RisesAfter s xs
rises_from s [] rises later = tt
rises_from s (x ∷ xs) rises later = (All-head (λ p. s.t < p.t) x xs later, rises)

rises_take : (n : ℕ) (p : Point) (ps : List Point) → RisesAfter p ps → RisesAfter p (take n ps)
rises_take zero p ps rises = tt
rises_take (suc n) p [] rises = tt
rises_take (suc n) p (q ∷ ps) rises = (rises.0, rises_take n q ps rises.1)

front_rises : (n : ℕ) (ps : List Point) → PointsRise ps → PointsRise (take n ps)
front_rises zero ps rises = tt
front_rises (suc n) [] rises = tt
front_rises (suc n) (p ∷ ps) rises = rises_take n p ps rises

back_rises : (n : ℕ) (ps : List Point) → PointsRise ps → PointsRise (drop n ps)
back_rises zero ps rises = rises
back_rises (suc n) [] rises = tt
back_rises (suc n) (p ∷ ps) rises = back_rises n ps (rises_rest p ps rises)

-- the shape of a covered window, by what the code finds
pub found_shape : (step : Bool) (held : Option Point) (l : List Rec) (from to : ℕ) (e : Ends) → IsRising l
    → All (λ p. InRange p) (points_of l) → IfThere InRange held → IfThere (IsNotBefore l) held → from < to
    → to ≤ last_time
    → is_covered (points_closed_by held l) from to ≡ true → e.start.t ≡ from → e.end.t ≡ to
    → value_read (read_at step (points_closed_by held l) from) ≡ Some e.start.v
    → value_read (read_at step (points_closed_by held l) to) ≡ Some e.end.v
    → e.first ≡ count_by (λ r. nat_lt r.point.t (from + 1)) l
    → e.behind ≡ count_by (λ r. nat_lt r.point.t to) l
    → IsShape step (points_closed_by held l) (points_of l) from to e
found_shape step held l from to e rises range held_range not_before order reach covered starts ends start end first
    behind =
    let In : Point → Type 0 = λ p. InRange p in
    let ps = points_of l in
    let cs = points_closed_by held l in
    let closing = closed held l rises not_before in
    let ps_rise = points_rise l rises in
    let cs_rise = closed_rise cs ps closing.more ps_rise closing.whole closing.later in
    let cs_range = closed_in_range held cs ps closing held_range range in
    let gap_first : IsGapAt ps (from + 1) e.first = rw first (gap_at (from + 1) l ps_rise) in
    let gap_behind : IsGapAt ps to e.behind = rw behind (gap_at to l ps_rise) in
    let inner = slice_range ps e.first e.behind in
    let not_inside =
    λ (q : Point) (h : to ≤ q.t). and_right (nat_lt from q.t) (nat_lt q.t to) (le-ltb q.t to h) in
    let not_counted =
    λ (q : Point) (h : to ≤ q.t). and_right (nat_le from q.t) (nat_lt q.t to) (le-ltb q.t to h) in
    let points = passed_over (inside from to) held cs ps from to closing covered not_inside
    ∙ inside_places ps from to e.first e.behind gap_first gap_behind in
    let start_is : end_at from (value_read (read_at step cs from)) ≡ e.start ∷ [] =
    rw start (ap (λ t. record { t = t; v = e.start.v } ∷ []) (sym starts)) in
    let end_is : end_at to (value_read (read_at step cs to)) ≡ e.end ∷ [] =
    rw end (ap (λ t. record { t = t; v = e.end.v } ∷ []) (sym ends)) in
    let low : All (From (from + 1)) inner =
    All-take (From (from + 1)) (e.behind - e.first) (drop e.first ps) gap_first.from in
    let high : All (Before to) inner =
    rw (between_is ps e.first e.behind)
    (All-drop (Before to) e.first (take e.behind ps) gap_behind.before) in
    let inner_rise : PointsRise inner =
    front_rises (e.behind - e.first) (drop e.first ps) (back_rises e.first ps ps_rise) in
    let later =
    All-weaker (From (from + 1)) (λ p. e.start.t < p.t)
    (λ p h. let u : from + 1 ≤ p.t = h in omega arith) inner low in
    let begun : PointsRise (e.start ∷ inner) = rises_from e.start inner inner_rise later in
    let earlier =
    All-weaker (Before to) (Before e.end.t)
    (λ p h. let u : p.t < to = h in let r : p.t < e.end.t = omega arith in r) inner high in
    let all_earlier = All-cons (Before e.end.t) e.start inner (omega arith) earlier in
    let start_value =
    value_small (read_at step cs from) e.start.v (readable step cs from cs_rise cs_range) start in
    let end_value = value_small (read_at step cs to) e.end.v (readable step cs to cs_rise cs_range) end in
    let start_in : InRange e.start = record { time = omega arith; value = start_value } in
    let end_in : InRange e.end = record { time = omega arith; value = end_value } in
    let inner_in = All-take In (e.behind - e.first) (drop e.first ps) (All-drop In e.first ps range) in
    record {
      covered = covered;
      whole = ap₂ (λ a b. a ++ b) (ap₂ (λ a b. a ++ b) start_is points) end_is;
      count = passed_over
          (λ p. nat_le from p.t && nat_lt p.t to) held cs ps from to closing covered not_counted;
      ends = record {
        rises = rises_push (e.start ∷ inner) e.end begun all_earlier;
        range = All-append In (e.start ∷ inner) (e.end ∷ []) (All-cons In e.start inner start_in inner_in)
            (All-cons In e.end [] end_in (All-nil In));
        order = gaps_rise ps (from + 1) to e.first e.behind (omega arith) gap_first gap_behind;
        within = gap_behind.within;
      };
    }

-- The points of a content that a held point closes, and those next to a time.
use Rattle.std.proofs.Common.{◌≡◌, ◌≢◌, ℕ, ◌<◌, ◌≤◌, inl, inr, ℤ, pos, Bool, true, false, cond, nat_eq, nat_lt, List, [], ◌∷◌, ◌++◌, Option, None, Some, All, length, take, drop, refl, sym, ap, ◌∙◌, subst, arith, append_assoc, append-nil}
use Rattle.std.specs.Prelude.{count_by, slice_get, IfSome}
use Rattle.std.specs.Option.{option_to_list}
use Rattle.std.proofs.lemmas.Bool.{cases_eq, cases_lt, ne_eqb, lt-ltb, le-ltb}
use Rattle.std.proofs.lemmas.List.{map-append, take-append-drop, take_all, length-map}
use Rattle.std.proofs.lemmas.Option.{slice_get-get_or}
use Rattle.std.proofs.lemmas.List.Elements.{All-nil, All-cons, All-head, All-tail, All-append, All-map}
use Rattle.trend_num.specs.{Rec, Point, InRange}
use Rattle.trend_model.specs.{content_at, is_late_record, kept_at, late_at, IsNotBefore, IsRising, placed, points_of, read_at, IfThere, IsAmong, PointsRise, last_point}
use Rattle.trend_model.specs.Walk.{kept}
use Rattle.trend_model.proofs.ReadLaw.{among_middle, points_rise, read_at_point, read_content}
use Rattle.trend_model.proofs.WindowLaw.{before_middle}
use Rattle.interp_read.specs.{IsAfterAll, points_closed_by, AreNeighbours, IsReadable}
use Rattle.interp_read.proofs.Readable.{readable}
use Rattle.interp_read.proofs.RisingPoints.{Before, From, IsGapAt, among_all, all_among, first_drop, first_parts, gap_at, last_parts, last_push, no_last, rises_push}

-- ---- closing

-- a record after all others goes to the end
placed_last : (r : Rec) (l : List Rec) → All (λ x. x.point.t < r.point.t) l → placed r l ≡ l ++ r ∷ []
placed_last r [] before = refl
placed_last r (x ∷ l) before =
    let Earlier : Rec → Type 0 = λ y. y.point.t < r.point.t in
    let first : x.point.t < r.point.t = All-head Earlier x l before in
    rw (le-ltb r.point.t x.point.t (omega arith), lt-ltb x.point.t r.point.t first)
    (ap (λ m. x ∷ m) (placed_last r l (All-tail Earlier x l before)))

-- no record is after all
none_after : (l : List Rec) (t : ℕ) → All (Before t) (points_of l)
    → (late_at l t ≡ None) × (kept_at l t ≡ None)
none_after [] t before = (refl, refl)
none_after (r ∷ l) t before =
    let rest = none_after l t (All-tail (Before t) r.point (points_of l) before) in
    let first : r.point.t < t = All-head (Before t) r.point (points_of l) before in
    let other : nat_eq r.point.t t ≡ false = ne_eqb r.point.t t (omega arith) in (
      rw (rest.0, other) (neither (is_late_record r.kind)),
      rw (rest.1, other) (neither (is_late_record r.kind)),
    )
  where
    neither : (late : Bool) → cond {A = Option ℤ} late None None ≡ None
    neither true = refl
    neither false = refl

-- the facts of all points of records
records_all : (P : Point → Type 0) (l : List Rec) → All P (points_of l) → All (λ r. P r.point) l
records_all P [] all = All-nil (λ r. P r.point)
records_all P (r ∷ l) all =
    All-cons (λ x. P x.point) r l (All-head P r.point (points_of l) all)
    (records_all P l (All-tail P r.point (points_of l) all))

-- a held point that is after all others is added
pub closed_more : (q : Point) (l : List Rec) → IsRising l → IsAfterAll (points_of l) q
    → points_closed_by (Some q) l ≡ points_of l ++ q ∷ []
closed_more q l rises after =
    let apart = none_after l q.t after in
    let none : content_at l q.t ≡ None = rw (apart.0, apart.1) refl in
    let last : placed (kept q) l ≡ l ++ kept q ∷ [] = placed_last (kept q) l
    (records_all (Before q.t) l after) in
    rw (none, last) (map-append (λ r. r.point) l (kept q ∷ []))

-- a held point at the time of the last one is not
pub closed_same : (q p : Point) (l : List Rec) → IsRising l → last_point (points_of l) ≡ Some p → p.t ≡ q.t
    → points_closed_by (Some q) l ≡ points_of l ++ []
closed_same q p l rises last same =
    let parts = last_parts (points_of l) p last in
    let in_it : IsAmong p (points_of l) = subst (IsAmong p) (sym parts.1) (among_middle parts.0 p []) in
    let exact = read_at_point false (points_of l) p (points_rise l rises) in_it in
    let there_is : content_at l q.t ≡ Some p.v =
    rw (← same) (read_content l false p.t p.v rises exact) in
    rw there_is (sym (append-nil (points_of l)))

-- a held point that is not before any, and not at the time of the last, is after all
pub after_all : (q : Point) (l : List Rec) (o : Option Point) → IsRising l → IsNotBefore l q
    → last_point (points_of l) ≡ o
    → ((p : Point) → o ≡ Some p → p.t ≢ q.t) → IsAfterAll (points_of l) q
after_all q l None rises not_before last other = rw (no_last (points_of l) last) (All-nil (Before q.t))
after_all q l (Some p) rises not_before last other =
    let parts = last_parts (points_of l) p last in
    let rise : PointsRise (parts.0 ++ p ∷ []) = subst PointsRise parts.1 (points_rise l rises) in
    let each = All-map (λ x. x.t ≤ q.t) (λ r. r.point) l not_before in
    let in_it : IsAmong p (points_of l) = subst (IsAmong p) (sym parts.1) (among_middle parts.0 p []) in
    let at_most : p.t ≤ q.t = among_all (λ x. x.t ≤ q.t) (points_of l) each p in_it in
    let differs : p.t ≢ q.t = other p refl in
    let before = all_among (Before q.t) parts.0
    (λ x among. let h = before_middle parts.0 p [] rise x among in omega arith) in
    rw parts.1 (All-append (Before q.t) parts.0 (p ∷ []) before
    (All-cons (Before q.t) p [] (omega arith) (All-nil (Before q.t))))

-- the points of a content that held closes: its own, and maybe the held one, which is after all; it ends at
-- the held point's
-- time
pub record IsClosed (held : Option Point) (cs ps : List Point) : Type 0 where
  pub more : Option Point
  pub whole : cs ≡ ps ++ option_to_list more
  pub later : IfSome more (IsAfterAll ps)
  pub of_held : (q : Point) → more ≡ Some q → held ≡ Some q
  pub ends : (q : Point) → held ≡ Some q → (z : Point) × ((last_point cs ≡ Some z) × (z.t ≡ q.t))

pub closed : (held : Option Point) (l : List Rec) → IsRising l → IfThere (IsNotBefore l) held
    → IsClosed held (points_closed_by held l) (points_of l)
closed None l rises not_before =
    record {
      more = None;
      whole = sym (append-nil (points_of l));
      later = tt;
      of_held = λ q h. h;
      ends =
          λ q h. cc;
    }
closed (Some q) l rises not_before = by_last (last_point (points_of l)) refl
  where
    added_one : IsAfterAll (points_of l) q → IsClosed (Some q) (points_closed_by (Some q) l) (points_of l)
    added_one after =
        let whole = closed_more q l rises after in
        record {
          more = Some q;
          whole = whole;
          later = after;
          of_held = λ z h. h;
          ends = λ z h. let same : q ≡ z = cc in
              (q, (ap last_point whole ∙ last_push (points_of l) q, ap (λ p. p.t) same));
        }

    by_last : (o : Option Point) → last_point (points_of l) ≡ o
        → IsClosed (Some q) (points_closed_by (Some q) l) (points_of l)
    by_last None last = added_one (after_all q l None rises not_before last (λ p h. cc))
    by_last (Some p) last =
        elim (cases_eq p.t q.t) [
          | inl same ↦
              let whole = closed_same q p l rises last same in
              record {
                more = None;
                whole = whole;
                later = tt;
                of_held = λ z h. cc;
                ends = λ z h. let is : q ≡ z = cc in
                    (p, (ap last_point (whole ∙ append-nil (points_of l)) ∙ last, same ∙ ap (λ x. x.t) is));
              }
          | inr other ↦ added_one (after_all q l (Some p) rises not_before last
              (λ x h. let is : p ≡ x = cc in rw (← is) other))
        ]

-- they rise
pub closed_rise : (cs ps : List Point) (more : Option Point) → PointsRise ps → cs ≡ ps ++ option_to_list more
    → IfSome more (IsAfterAll ps) → PointsRise cs
closed_rise cs ps more rises whole later = grind (arith, append-nil, rises_push)

-- and are in range
pub closed_in_range : (held : Option Point) (cs ps : List Point) → IsClosed held cs ps → IfThere InRange held
    → All (λ p. InRange p) ps
    → All (λ p. InRange p) cs
closed_in_range held cs ps closing range all = rw closing.whole (with_more closing.more closing.of_held)
  where
    with_more : (o : Option Point) → ((q : Point) → o ≡ Some q → held ≡ Some q)
        → All (λ p. InRange p) (ps ++ option_to_list o)
    with_more None of_held = rw (append-nil ps) all
    with_more (Some q) of_held =
        let held_is : held ≡ Some q = of_held q refl in
        let in_range : InRange q = rw held_is at range in
        All-append (λ p. InRange p) ps (q ∷ []) all
        (All-cons (λ p. InRange p) q [] in_range (All-nil (λ p. InRange p)))

-- ---- the points next to a time

-- where not all points of the content are before t
pub neighbours_inside : (held : Option Point) (cs ps : List Point) (t n : ℕ) (p : Point) → PointsRise ps
    → IsClosed held cs ps
    → IsGapAt ps t n → slice_get ps n ≡ Some p → AreNeighbours cs t (last_point (take n ps)) (Some p)
neighbours_inside held cs ps t n p rises closing gap found =
    let parts = first_parts (drop n ps) p (first_drop ps n ∙ found) in
    let split = take-append-drop n ps in
    let in_it : IsAmong p ps = grind (arith, among_middle) in
    let from : t ≤ p.t = All-head (From t) p parts.0 (subst (All (From t)) parts.1 gap.from) in
    record {
      rises = closed_rise cs ps closing.more rises closing.whole closing.later;
      earlier = take n ps;
      later = drop n ps ++ option_to_list closing.more;
      whole = grind (arith, append_assoc);
      earlier_are = gap.before;
      later_are = All-append (From t) (drop n ps) (option_to_list closing.more) gap.from
          (more_from closing.more closing.later in_it from);
      last = refl;
      first = rw parts.1 refl;
    }
  where
    more_from : (o : Option Point) → IfSome o (IsAfterAll ps) → IsAmong p ps → t ≤ p.t
        → All (From t) (option_to_list o)
    more_from None later in_it from = All-nil (From t)
    more_from (Some q) later in_it from =
        let after : p.t < q.t = among_all (Before q.t) ps later p in_it in
        All-cons (From t) q [] (omega arith) (All-nil (From t))

-- where all are, and the held point too
pub neighbours_behind : (cs ps : List Point) (t n : ℕ) (q : Point) → PointsRise ps → cs ≡ ps ++ q ∷ []
    → IsAfterAll ps q → IsGapAt ps t n
    → length ps ≤ n → q.t < t → AreNeighbours cs t (Some q) None
neighbours_behind cs ps t n q rises whole after gap all early =
    let before : All (Before t) ps = rw (take_all n ps all) at gap.before in
    record {
      rises = rw whole (rises_push ps q rises after);
      earlier = ps ++ q ∷ [];
      later = [];
      whole = whole ∙ sym (append-nil (ps ++ q ∷ []));
      earlier_are = All-append (Before t) ps (q ∷ []) before
          (All-cons (Before t) q [] early (All-nil (Before t)));
      later_are = All-nil (From t);
      last = last_push ps q;
      first = refl;
    }

-- where all are, and no held point is
pub neighbours_last : (cs ps : List Point) (t n : ℕ) (o : Option Point) → PointsRise ps
    → cs ≡ ps ++ option_to_list o
    → IfSome o (IsAfterAll ps) → IfSome o (From t) → IsGapAt ps t n → length ps ≤ n
    → AreNeighbours cs t (last_point (take n ps)) o
neighbours_last cs ps t n o rises whole after from gap all = grind (arith, closed_rise, take_all)

-- ---- what the code finds

-- the last of as many points as there are
pub last_of_all : (l : List Rec) (n : ℕ) (o : Option Point) → n ≡ length l
    → o ≡ last_point (take n (points_of l))
    → last_point (points_of l) ≡ o
last_of_all l n o whole last = grind (arith, take_all, length-map)

-- a held point that is not at the time of the last point is added
pub added_held : (held : Option Point) (q : Point) (l : List Rec) (o : Option Point) → held ≡ Some q
    → IsRising l
    → IfThere (IsNotBefore l) held → last_point (points_of l) ≡ o → ((p : Point) → o ≡ Some p → p.t ≢ q.t)
    → (points_closed_by held l ≡ points_of l ++ q ∷ []) × IsAfterAll (points_of l) q
added_held held q l o is rises not_before last other =
    let not_before_q : IsNotBefore l q = rw is at not_before in
    let after = after_all q l o rises not_before_q last other in
    (rw is (closed_more q l rises after), after)

-- one at its time is not
pub same_held : (held : Option Point) (q p : Point) (l : List Rec) → held ≡ Some q → IsRising l
    → last_point (points_of l) ≡ Some p
    → p.t ≡ q.t → points_closed_by held l ≡ points_of l ++ []
same_held held q p l is rises last same = rw is (closed_same q p l rises last same)

-- a place that the content counts for a time is a gap there
gap_of : (l : List Rec) (t n : ℕ) → IsRising l → n ≡ count_by (λ r. nat_lt r.point.t t) l
    → IsGapAt (points_of l) t n
gap_of l t n rises count = rw count (gap_at t l (points_rise l rises))

-- the points next to a time, by the place of the gap and the points that were found
pub found_inside : (held : Option Point) (l : List Rec) (t n : ℕ) (before : Option Point) (p : Point)
    → IsRising l
    → IfThere (IsNotBefore l) held → n ≡ count_by (λ r. nat_lt r.point.t t) l
    → before ≡ last_point (take n (points_of l))
    → slice_get (points_of l) n ≡ Some p → AreNeighbours (points_closed_by held l) t before (Some p)
found_inside held l t n before p rises not_before count last found =
    rw last (neighbours_inside held (points_closed_by held l) (points_of l) t n p (points_rise l rises)
    (closed held l rises not_before)
    (gap_of l t n rises count) found)

pub found_behind : (held : Option Point) (l : List Rec) (t n : ℕ) (q : Point) → IsRising l
    → n ≡ count_by (λ r. nat_lt r.point.t t) l → length l ≤ n
    → points_closed_by held l ≡ points_of l ++ q ∷ []
    → IsAfterAll (points_of l) q → q.t < t → AreNeighbours (points_closed_by held l) t (Some q) None
found_behind held l t n q rises count all whole after early =
    neighbours_behind (points_closed_by held l) (points_of l) t n q (points_rise l rises) whole after
    (gap_of l t n rises count)
    (omega (arith, length-map l (λ r. r.point))) early

pub found_last : (held : Option Point) (l : List Rec) (t n : ℕ) (before o : Option Point) → IsRising l
    → n ≡ count_by (λ r. nat_lt r.point.t t) l → length l ≤ n → before ≡ last_point (take n (points_of l))
    → points_closed_by held l ≡ points_of l ++ option_to_list o → IfSome o (IsAfterAll (points_of l))
    → IfSome o (From t)
    → AreNeighbours (points_closed_by held l) t before o
found_last held l t n before o rises count all last whole after from =
    rw last (neighbours_last (points_closed_by held l) (points_of l) t n o (points_rise l rises) whole after
    from
    (gap_of l t n rises count) (omega (arith, length-map l (λ r. r.point))))

-- where no point is at a place, all are before it
pub past_all : (l : List Rec) (n : ℕ) → slice_get (points_of l) n ≡ None → length l ≤ n
past_all l n none =
    elim (cases_lt n (length l)) [
      | inl inside ↦
          let d : Point = record { t = 0; v = pos 0 } in
          let there = slice_get-get_or (points_of l) n d (omega (arith, length-map l (λ r. r.point))) in
          cc
      | inr past ↦ past
    ]

-- what a closed content reads as can be rounded, to a value in range
pub closed_readable : (step : Bool) (held : Option Point) (l : List Rec) (t : ℕ) → IsRising l
    → All InRange (points_of l) → IfThere InRange held → IfThere (IsNotBefore l) held
    → IsReadable (read_at step (points_closed_by held l) t)
closed_readable step held l t rises each range last =
    let cs = points_closed_by held l in
    let closing = closed held l rises last in
    let own = points_rise l rises in
    let rising = closed_rise cs (points_of l) closing.more own closing.whole closing.later in
    readable step cs t rising (closed_in_range held cs (points_of l) closing range each)

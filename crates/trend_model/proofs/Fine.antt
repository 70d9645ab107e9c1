-- An archive keeps the rules of records and doors by what is sent in its turn.
use Rattle.std.proofs.Common.{◌≡◌, ℕ, ◌<◌, ◌≤◌, pos, Bool, true, false, cond, ◌&&◌, List, [], ◌∷◌, ◌++◌, Option, None, Some, refl, sym, ap, subst, arith}
use Rattle.trend_num.specs.{Point, Rec, Tuning}
use Rattle.trend_model.specs.{Each, IfThere, Sent, InOrder, Late, Tuned, down, IsNotSteeper, is_not_steeper, is_admitted, upper_after, lower_after, AreDoorsAt, AreFitDoors, DoorsFit, IsTagBegun, IsBegunOrBlank}
use Rattle.trend_model.specs.Walk.{kept, late, is_short, is_early, is_near}
use Rattle.trend_model.specs.State.{Archive, joins, line_after, stair_after, ends_at, archive_on, archived}
use Rattle.trend_model.proofs.Near.{within_right}
use Rattle.trend_model.proofs.Doors.{under_of_within, over_of_within, test_fact, steeper_self}
use Rattle.trend_model.proofs.Listed.{each_push, AreListed, listed_first, listed_on, listed_late, listed_keep}
use Rattle.trend_model.proofs.Following.{cond_by, IsLateAfter, IsNext, Follows, held_archived}

-- the archive of these parts
abbrev pub archive : Tuning → List Rec → Option Point → Option Point → Option Point → Option Point → Archive
archive t rs a q u l = record { tuning = t; records = rs; hinge = a; held = q; upper = u; lower = l }

-- a fact of the point of a record
abbrev pub OfPoint : (Point → Type 0) → Rec → Type 0
OfPoint P r = P r.point

-- an archive that keeps the rules, each point of which has the property P
pub record IsFine (P : Point → Type 0) (step : Bool) (c : Archive) : Type 0 where
  pub whole : IsBegunOrBlank step c.tuning.comp_dev c.records c.held c.hinge c.upper c.lower
  pub records_are : Each (λ r. P r.point) c.records
  pub held_is : IfThere P c.held
  pub hinge_is : IfThere P c.hinge
  pub upper_is : IfThere P c.upper
  pub lower_is : IfThere P c.lower

-- the records of a tag that has begun are listed
listed_of : (step : Bool) (d : ℕ) (rs : List Rec) (q a : Point) (u l : Option Point)
    → IsTagBegun step d rs q a u l → AreListed rs q a
listed_of step d rs q a u l begun = grind arith

-- listed records and doors that fit are those of a tag that has begun
begun_of : (step : Bool) (d : ℕ) (rs : List Rec) (q a : Point) (u l : Option Point) → AreListed rs q a
    → DoorsFit step d a q u l
    → IsTagBegun step d rs q a u l
begun_of step d rs q a u l listed doors = grind arith

-- both doors hang at the held point
fit_hung : (step : Bool) (d : ℕ) (a p : Point) → a.t < p.t → AreFitDoors step d a p p p
fit_hung true d a p after = (refl, refl)
fit_hung false d a p after = record {
  upper_after = after;
  upper_before = omega arith;
  lower_after = after;
  lower_before = omega arith;
  under_upper = under_of_within a p p d (within_right a p d);
  upper_not_above = steeper_self a p p (pos d) refl;
  over_lower = over_of_within a p p d (within_right a p d);
  lower_not_below = steeper_self a p p (down d) refl;
}

-- an archive that has just kept p
fine_kept : (P : Point → Type 0) (step : Bool) (t : Tuning) (rs : List Rec) (p : Point) → AreListed rs p p
    → Each (λ r. P r.point) rs → P p
    → IsFine P step (archive t rs (Some p) (Some p) None None)
fine_kept P step t rs p listed each here = grind (arith, begun_of)

-- an archive that holds p between doors that fit
fine_held : (P : Point → Type 0) (step : Bool) (t : Tuning) (rs : List Rec) (a p u l : Point)
    → AreListed rs p a → a.t < p.t
    → AreFitDoors step t.comp_dev a p u l → Each (λ r. P r.point) rs → P a → P p → P u → P l
    → IsFine P step (archive t rs (Some a) (Some p) (Some u) (Some l))
fine_held P step t rs a p u l listed after fit each at_a at_p at_u at_l = grind (arith, begun_of)

-- an archive that holds p, at which both doors hang
fine_hung : (P : Point → Type 0) (step : Bool) (t : Tuning) (rs : List Rec) (a p : Point) → AreListed rs p a
    → a.t < p.t
    → Each (λ r. P r.point) rs → P a → P p → IsFine P step (archive t rs (Some a) (Some p) (Some p) (Some p))
fine_hung P step t rs a p listed after each at_a at_p = grind (arith, fine_held, fit_hung)

-- the first value is kept
fine_first : (P : Point → Type 0) (step : Bool) (t : Tuning) (rs : List Rec) (p : Point) → rs ≡ [] → P p
    → IsFine P step (archive t (rs ++ (kept p ∷ [])) (Some p) (Some p) None None)
fine_first P step t rs p none here = grind (arith, fine_kept, listed_first)

-- the upper door that stays or swings to p
upper_fits : (a u p : Point) (d : ℕ) (stays : Bool) → is_not_steeper a u (pos d) p (pos d) ≡ stays → a.t < u.t
    → u.t ≤ p.t → a.t < p.t
    → IsNotSteeper a p (pos 0) u (pos d)
    → (a.t < (cond stays u p).t) × ((cond stays u p).t ≤ p.t)
    × IsNotSteeper a p (pos 0) (cond stays u p) (pos d)
    × IsNotSteeper a (cond stays u p) (pos d) p (pos d)
upper_fits a u p d true test above before after under = (above, before, under, test_fact _ _ test)
upper_fits a u p d false test above before after under =
    (after, omega arith, under_of_within a p p d (within_right a p d), steeper_self a p p (pos d) refl)

-- the lower door that stays or swings to p
lower_fits : (a l p : Point) (d : ℕ) (stays : Bool) → is_not_steeper a p (down d) l (down d) ≡ stays
    → a.t < l.t → l.t ≤ p.t → a.t < p.t
    → IsNotSteeper a l (down d) p (pos 0)
    → (a.t < (cond stays l p).t) × ((cond stays l p).t ≤ p.t)
    × IsNotSteeper a (cond stays l p) (down d) p (pos 0)
    × IsNotSteeper a p (down d) (cond stays l p) (down d)
lower_fits a l p d true test above before after over = (above, before, over, test_fact _ _ test)
lower_fits a l p d false test above before after over =
    (after, omega arith, over_of_within a p p d (within_right a p d), steeper_self a p p (down d) refl)

-- two tests that hold together hold
both_true : (b c : Bool) → b && c ≡ true → (b ≡ true) × (c ≡ true)
both_true true c e = (refl, e)
both_true false c e = cc

-- doors that admit p fit it once they have swung
fit_swung : (d : ℕ) (a q u l p : Point) → AreDoorsAt d a q u l → q.t < p.t → a.t < p.t
    → is_admitted a d u l p ≡ true
    → AreDoorsAt d a p (upper_after a d u p) (lower_after a d l p)
fit_swung d a q u l p doors later after admitted = grind (arith, both_true, upper_fits, test_fact, lower_fits)

-- a door that stays or swings has what both have
pub door_is : (P : Point → Type 0) (stays : Bool) (u p : Point) → P u → P p → P (cond stays u p)
door_is P stays u p at_u at_p = cond_by P stays u p (λ e. at_u) (λ e. at_p)

-- a tag of lines continues by p, which is after the held point
fine_line : (P : Point → Type 0) (t : Tuning) (rs : List Rec) (p : Point) (a q u l : Option Point)
    → IsFine P false (archive t rs a q u l)
    → P p → IfThere (λ (s : Point). s.t < p.t) q → IsFine P false (line_after (archive t rs a q u l) p a q u l)
fine_line P t rs p None None u l fine here later = fine_first P false t rs p fine.whole.none_recorded here
fine_line P t rs p None (Some q) u l fine here later = absurd fine.whole
fine_line P t rs p (Some a) None u l fine here later = absurd fine.whole
fine_line P t rs p (Some a) (Some q) None (Some l) fine here later = absurd fine.whole.doors
fine_line P t rs p (Some a) (Some q) (Some u) None fine here later = absurd fine.whole.doors
fine_line P t rs p (Some a) (Some q) None None fine here later =
    let at_hinge : q.t ≡ a.t = ap (λ (x : Point). x.t) fine.whole.doors in
    let listed = listed_on rs q p a (listed_of false t.comp_dev rs q a None None fine.whole) (omega arith) in
    fine_hung P false t rs a p listed (omega arith) fine.records_are fine.hinge_is here
fine_line P t rs p (Some a) (Some q) (Some u) (Some l) fine here later =
    let c = archive t rs (Some a) (Some q) (Some u) (Some l) in
    let past : a.t < q.t = fine.whole.doors.0 in
    let after : a.t < p.t = omega arith in
    let old = listed_of false t.comp_dev rs q a (Some u) (Some l) fine.whole in
    let listed = listed_on rs q p a old (omega arith) in
    cond_by (IsFine P false) (joins t a u l p) _ _
    (λ e. fine_held P false t rs a p (upper_after a t.comp_dev u p) (lower_after a t.comp_dev l p) listed after
    (fit_swung t.comp_dev a q u l p fine.whole.doors.1 later after
    (both_true (is_short t a p) (is_admitted a t.comp_dev u l p) e).1)
    fine.records_are fine.hinge_is here
    (door_is P (is_not_steeper a u (pos t.comp_dev) p (pos t.comp_dev)) u p fine.upper_is here)
    (door_is P (is_not_steeper a p (down t.comp_dev) l (down t.comp_dev)) l p fine.lower_is here))
    (λ e. cond_by (IsFine P false) (is_short t a p && is_early t a q) _ _
    (λ e. fine_hung P false t rs a p listed after fine.records_are fine.hinge_is here)
    (λ e. fine_hung P false t (rs ++ (kept q ∷ [])) q p
    (listed_on _ q p q (listed_keep rs q a old past) (omega arith)) later
    (each_push (OfPoint P) rs (kept q) fine.records_are fine.held_is) fine.held_is here))

-- the held point of a tag that has begun is not before its hinge
not_before_hinge : (step : Bool) (d : ℕ) (a q : Point) (u l : Option Point) → DoorsFit step d a q u l
    → a.t ≤ q.t
not_before_hinge step d a q None None doors =
    let same : q.t ≡ a.t = ap (λ (x : Point). x.t) doors in omega arith
not_before_hinge step d a q (Some u) (Some l) doors = let past : a.t < q.t = doors.0 in omega arith
not_before_hinge step d a q None (Some l) doors = absurd doors
not_before_hinge step d a q (Some u) None doors = absurd doors

-- so does a step tag
fine_stair : (P : Point → Type 0) (t : Tuning) (rs : List Rec) (p : Point) (a q u l : Option Point)
    → IsFine P true (archive t rs a q u l)
    → P p → IfThere (λ (s : Point). s.t < p.t) q → IsFine P true (stair_after (archive t rs a q u l) p a)
fine_stair P t rs p None None u l fine here later = fine_first P true t rs p fine.whole.none_recorded here
fine_stair P t rs p None (Some q) u l fine here later = absurd fine.whole
fine_stair P t rs p (Some a) None u l fine here later = absurd fine.whole
fine_stair P t rs p (Some a) (Some q) u l fine here later =
    let from = not_before_hinge true t.comp_dev a q u l fine.whole.doors in
    let after : a.t < p.t = omega arith in
    let listed = listed_on rs q p a (listed_of true t.comp_dev rs q a u l fine.whole) (omega arith) in
    let hung = fine_hung P true t rs a p listed after fine.records_are fine.hinge_is here in
    cond_by (IsFine P true) (is_short t a p && is_near t a p) _ _ (λ e. hung)
    (λ e. cond_by (IsFine P true) (is_short t a p && is_early t a p) _ _ (λ e. hung)
    (λ e. fine_kept P true t (rs ++ (kept p ∷ [])) p (listed_keep rs p a listed after)
    (each_push (OfPoint P) rs (kept p) fine.records_are here) here))

-- a late value adds its record
fine_late : (P : Point → Type 0) (step : Bool) (t : Tuning) (rs : List Rec) (x : Point) (a q u l : Option Point)
    → IsFine P step (archive t rs a q u l) → P x → IsLateAfter q x
    → IsFine P step (archive t (rs ++ (late x ∷ [])) a q u l)
fine_late P step t rs x a None u l fine here before = absurd before
fine_late P step t rs x None (Some q) u l fine here before = absurd fine.whole
fine_late P step t rs x (Some a) (Some q) u l fine here before = record {
  whole = begun_of step t.comp_dev (rs ++ (late x ∷ [])) q a u l
      (listed_late rs q x a (listed_of step t.comp_dev rs q a u l fine.whole) before) fine.whole.doors;
  records_are = each_push (OfPoint P) rs (late x) fine.records_are here;
  held_is = fine.held_is;
  hinge_is = fine.hinge_is;
  upper_is = fine.upper_is;
  lower_is = fine.lower_is;
}

-- where the held point is the hinge, or nothing has begun, any tuning may come
fine_tuned : (P : Point → Type 0) (step : Bool) (t w : Tuning) (rs : List Rec) (a q u l : Option Point)
    → IsFine P step (archive t rs a q u l)
    → IsFine P step (record (ends_at (archive t rs a q u l) q u l) { tuning = w })
fine_tuned P step t w rs None None u l fine = record {
  whole = fine.whole;
  records_are = fine.records_are;
  held_is = tt;
  hinge_is = tt;
  upper_is = fine.upper_is;
  lower_is = fine.lower_is;
}
fine_tuned P step t w rs None (Some q) u l fine = absurd fine.whole
fine_tuned P step t w rs (Some a) None u l fine = absurd fine.whole
fine_tuned P step t w rs (Some a) (Some q) None (Some l) fine = absurd fine.whole.doors
fine_tuned P step t w rs (Some a) (Some q) (Some u) None fine = absurd fine.whole.doors
fine_tuned P step t w rs (Some a) (Some q) None None fine = record {
  whole = begun_of step w.comp_dev rs q a None None
      (listed_of step t.comp_dev rs q a None None fine.whole) fine.whole.doors;
  records_are = fine.records_are;
  held_is = fine.held_is;
  hinge_is = fine.hinge_is;
  upper_is = tt;
  lower_is = tt;
}
fine_tuned P step t w rs (Some a) (Some q) (Some u) (Some l) fine =
    fine_kept P step w (rs ++ (kept q ∷ [])) q
    (listed_keep rs q a (listed_of step t.comp_dev rs q a (Some u) (Some l) fine.whole) fine.whole.doors.0)
    (each_push (OfPoint P) rs (kept q) fine.records_are fine.held_is) fine.held_is

-- an archive stays fine by what comes next after its held point
pub fine_on : (P : Point → Type 0) (step : Bool) (c : Archive) (s : Sent) → IsFine P step c → IsNext P c.held s
    → IsFine P step (archive_on step c s)
fine_on P step c (Late x) fine next =
    fine_late P step c.tuning c.records x c.hinge c.held c.upper c.lower fine next.0 next.1
fine_on P step c (Tuned w) fine next =
    fine_tuned P step c.tuning w c.records c.hinge c.held c.upper c.lower fine
fine_on P false c (InOrder p) fine next =
    fine_line P c.tuning c.records p c.hinge c.held c.upper c.lower fine next.0 next.1
fine_on P true c (InOrder p) fine next =
    fine_stair P c.tuning c.records p c.hinge c.held c.upper c.lower fine next.0 next.1

-- and by all that follows it
pub fine_archived : (P : Point → Type 0) (step : Bool) (c : Archive) (ss : List Sent) → IsFine P step c
    → Follows P c.held ss
    → IsFine P step (archived step c ss)
fine_archived P step c [] fine follows = fine
fine_archived P step c (s ∷ ss) fine follows =
    fine_on P step (archived step c ss) s (fine_archived P step c ss fine follows.0)
    (subst (λ q. IsNext P q s) (sym (held_archived step c ss)) follows.1)

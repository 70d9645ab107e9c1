-- The records of a tag that has begun, and one record more.
use Rattle.std.proofs.Common.{◌≡◌, ◌<◌, ◌≤◌, Bool, true, false, cond, List, [], ◌∷◌, ◌++◌, Some, refl, sym, ap, ◌∙◌, subst, arith}
use Rattle.std.proofs.lemmas.Bool.{false≢true}
use Rattle.trend_num.specs.{Point, Rec}
use Rattle.trend_model.specs.{Each, is_late_record, kept_points, RisesAfter, PointsRise, last_point, BeginsKept, IsLateBefore}
use Rattle.trend_model.specs.Walk.{kept, late}

-- a fact of each, and of one more
pub each_push : {A : Type 0} (P : A → Type 0) (xs : List A) (y : A) → Each P xs → P y → Each P (xs ++ (y ∷ []))
each_push P [] y each here = (here, tt)
each_push P (x ∷ xs) y each here = (each.0, each_push P xs y each.1 here)

-- a Late record leaves the kept points as they are
pub kept_points-late : (rs : List Rec) (x : Point) → kept_points (rs ++ (late x ∷ [])) ≡ kept_points rs
kept_points-late [] x = refl
kept_points-late (r ∷ rs) x = ap (λ l. cond (is_late_record r.kind) l (r.point ∷ l)) (kept_points-late rs x)

-- a Kept one is one more
pub kept_points-kept : (rs : List Rec) (x : Point)
    → kept_points (rs ++ (kept x ∷ [])) ≡ kept_points rs ++ (x ∷ [])
kept_points-kept [] x = refl
kept_points-kept (r ∷ rs) x =
    ap (λ l. cond (is_late_record r.kind) l (r.point ∷ l)) (kept_points-kept rs x)
    ∙ by_kind (is_late_record r.kind)
  where
    by_kind : (b : Bool) → cond b (kept_points rs ++ (x ∷ [])) (r.point ∷ kept_points rs ++ (x ∷ []))
        ≡ cond b (kept_points rs) (r.point ∷ kept_points rs) ++ (x ∷ [])
    by_kind true = refl
    by_kind false = refl

-- the last of points is the one that was put at the end
pub last_point-push : (xs : List Point) (q : Point) → last_point (xs ++ (q ∷ [])) ≡ Some q
last_point-push [] q = refl
last_point-push (x ∷ []) q = refl
last_point-push (x ∷ y ∷ xs) q = last_point-push (y ∷ xs) q

-- points rise with one more that is after the last
pub rises_push : (xs : List Point) (a q : Point) → PointsRise xs → last_point xs ≡ Some a → a.t < q.t
    → PointsRise (xs ++ (q ∷ []))
rises_push [] a q rises last above = tt
rises_push (x ∷ xs) a q rises last above = after x xs rises last
  where
    at_last : (x : Point) → Some x ≡ Some a → x.t < q.t
    at_last x e = (let same : x ≡ a = cc in subst (λ (y : Point). y.t < q.t) (sym same) above)

    after : (x : Point) (xs : List Point) → RisesAfter x xs → last_point (x ∷ xs) ≡ Some a
        → RisesAfter x (xs ++ (q ∷ []))
    after x [] rises last = (at_last x last, tt)
    after x (y ∷ xs) rises last = (rises.0, after y xs rises.1 last)

-- a list that begins Kept continues as it began
begins_push : (rs more : List Rec) → BeginsKept rs → BeginsKept (rs ++ more)
begins_push [] more begins = absurd begins
begins_push (r ∷ rs) more begins = begins

-- a Late record is not after what comes later
late_before_on : (rs : List Rec) (q p : Point) → Each (IsLateBefore q) rs → q.t ≤ p.t → Each (IsLateBefore p) rs
late_before_on [] q p each on = tt
late_before_on (r ∷ rs) q p each on =
    (λ e. (let before : r.point.t ≤ q.t = each.0 e in omega arith), late_before_on rs q p each.1 on)

-- the records of a tag that has begun, with this held point and this hinge
pub record AreListed (rs : List Rec) (q a : Point) : Type 0 where
  pub begins_kept : BeginsKept rs
  pub kept_rise : PointsRise (kept_points rs)
  pub hinge_last : last_point (kept_points rs) ≡ Some a
  pub late_before : Each (IsLateBefore q) rs

-- the first value
pub listed_first : (p : Point) → AreListed (kept p ∷ []) p p
listed_first p = grind (arith, false≢true)

-- another held point, not before the old one
pub listed_on : (rs : List Rec) (q p a : Point) → AreListed rs q a → q.t ≤ p.t → AreListed rs p a
listed_on rs q p a listed on = grind (arith, late_before_on)

-- a late value
pub listed_late : (rs : List Rec) (q x a : Point) → AreListed rs q a → x.t ≤ q.t
    → AreListed (rs ++ (late x ∷ [])) q a
listed_late rs q x a listed before = grind (arith, begins_push, kept_points-late, each_push)

-- the held point is kept
pub listed_keep : (rs : List Rec) (q a : Point) → AreListed rs q a → a.t < q.t
    → AreListed (rs ++ (kept q ∷ [])) q q
listed_keep rs q a listed after = record {
  begins_kept = begins_push rs (kept q ∷ []) listed.begins_kept;
  kept_rise = grind (arith, kept_points-kept, rises_push, after);
  hinge_last = ap last_point (kept_points-kept rs q) ∙ last_point-push (kept_points rs) q;
  late_before = each_push (IsLateBefore q) rs (kept q) listed.late_before (λ e. absurd (false≢true e));
}

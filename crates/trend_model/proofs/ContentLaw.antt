-- What is in the content of records, and the line or the stair between neighbours there.
use Rattle.std.proofs.Common.{◌≡◌, ℕ, ◌<◌, ◌⊎◌, inl, inr, ℤ, Bool, true, false, cond, List, [], ◌∷◌, Option, None, Some, nat_eq, refl, sym, ap, ap₂, ◌∙◌, subst, arith}
use Rattle.std.proofs.lemmas.Bool.Decides.{nat_tests}
use Rattle.std.specs.Option.{option_or}
use Rattle.trend_num.specs.{Point, Rec, Kind}
use Rattle.trend_num.specs.declared.archive.Kind.TheVariants as kind
use Rattle.trend_model.specs.{IsAmong, Origin, Sent, InOrder, value_at, is_late_record, late_at, kept_at, value_at_point, closed_at, RisesInTime, at}
use Rattle.trend_model.specs.Walk.{kept, last_since_hinge}
use Rattle.trend_model.proofs.Sent.{same_there}
use Rattle.trend_model.proofs.Chain.{NoneKept, IsSpan, spans_kept}
use Rattle.trend_model.proofs.WalkLaw.{IsHung, IsWalked}
use Rattle.trend_model.proofs.Since.{end_of, last_span}

-- one place has one value
some_same : {A : Type 0} (x y : A) → Some x ≡ Some y → x ≡ y
some_same x y e = cc

-- no place is empty and has a value
none_some : {A P : Type 0} (x : A) → None ≡ Some x → P
none_some x e = cc

-- numbers that test as equal are
same_number : (m n : ℕ) → nat_eq m n ≡ true → m ≡ n
same_number m n h = grind (arith, nat_tests)

-- a number tests as equal to itself
same_test : (n : ℕ) → nat_eq n n ≡ true
same_test n = grind (arith, nat_tests)

-- a value at a time is that of the point there
point_of_value : (p : Point) (t : ℕ) (v : ℤ) (here : Bool) → nat_eq p.t t ≡ here → cond here (Some p.v) None
    ≡ Some v → at t v ≡ p
point_of_value p t v true here e = ap₂ at (sym (same_number p.t t here)) (sym (some_same p.v v e))
point_of_value p t v false here e = none_some v e

-- a point has its value at its time
value_there : (p : Point) → value_at p p.t ≡ Some p.v
value_there p = ap (λ (b : Bool). cond b (Some p.v) None) (same_test p.t)

-- the kept point of a record
kept_of_record : (k : Kind) (p : Point) (t : ℕ) (v : ℤ) → cond (is_late_record k) None (value_at p t) ≡ Some v
    → kept (at t v) ≡ record { kind = k; point = p }
kept_of_record kind.Late p t v e = none_some v e
kept_of_record kind.Kept p t v e = ap kept (point_of_value p t v (nat_eq p.t t) refl e)

-- the same by what a later record keeps there
kept_is_by : (r : Rec) (rs : List Rec) (t : ℕ) (v : ℤ) (later : Option ℤ) → kept_at rs t ≡ later
    → (kept_at rs t ≡ Some v → IsAmong (kept (at t v)) rs)
    → option_or later (cond (is_late_record r.kind) None (value_at r.point t)) ≡ Some v
    → IsAmong (kept (at t v)) (r ∷ rs)
kept_is_by r rs t v (Some u) later before e = inr (before (later ∙ e))
kept_is_by r rs t v None later before e = inl (kept_of_record r.kind r.point t v e)

-- what is kept at a time is a kept point
kept_is : (rs : List Rec) (t : ℕ) (v : ℤ) → kept_at rs t ≡ Some v → IsAmong (kept (at t v)) rs
kept_is [] t v e = none_some v e
kept_is (r ∷ rs) t v e = kept_is_by r rs t v (kept_at rs t) refl (kept_is rs t v) e

-- a kept point's time is never empty
kept_there : (k : Point) (rs : List Rec) → IsAmong (kept k) rs → (v : ℤ) × (kept_at rs k.t ≡ Some v)
kept_there k [] there = absurd there
kept_there k (r ∷ rs) (inl e) = by_later (kept_at rs k.t)
  where
    own : cond (is_late_record r.kind) None (value_at r.point k.t) ≡ Some k.v
    own = ap (λ (s : Rec). cond (is_late_record s.kind) None (value_at s.point k.t)) (sym e) ∙ value_there k

    by_later : (later : Option ℤ)
        → (v : ℤ) × (option_or later (cond (is_late_record r.kind) None (value_at r.point k.t)) ≡ Some v)
    by_later (Some u) = (u, refl)
    by_later None = (k.v, own)
kept_there k (r ∷ rs) (inr there) =
    let before = kept_there k rs there in
    (before.0, ap (λ o. option_or o (cond (is_late_record r.kind) None (value_at r.point k.t))) before.1)

-- a kept point's time is in the closed content
pub closed_there : (k : Point) (rs : List Rec) (q : Option Point) → IsAmong (kept k) rs → closed_at rs q k.t
    ≡ None → ⊥
closed_there k rs q there none = grind (arith, kept_there, none_some)

-- a kept point, or the held one
abbrev pub IsEnd : Point → List Rec → Option Point → Type 0
IsEnd l rs q = IsAmong (kept l) rs ⊎ (q ≡ Some l)

-- a point of the closed content with no Late record is one of these
pub closed_point : (rs : List Rec) (q : Option Point) (p : Point) → closed_at rs q p.t ≡ Some p.v
    → late_at rs p.t ≡ None → IsEnd p rs q
closed_point rs q p here in_order =
    by_kept (kept_at rs p.t) refl (grind arith)
  where
    by_held : (o : Option Point) → value_at_point o p.t ≡ Some p.v → o ≡ Some p
    by_held None e = none_some p.v e
    by_held (Some s) e = ap Some (sym (point_of_value s p.t p.v (nat_eq s.t p.t) refl e))

    by_kept : (o : Option ℤ) → kept_at rs p.t ≡ o → option_or o (value_at_point q p.t) ≡ Some p.v → IsEnd p rs q
    by_kept None here e = inr (by_held q e)
    by_kept (Some u) here e = inl (kept_is rs p.t p.v (here ∙ e))

-- ---- neighbours

-- an end of a span is kept, or is the last value since the hinge
end_of_walk : (a l : Point) (rs : List Rec) (since : List Point) → IsEnd l rs (last_since_hinge (Some a) since)
    → IsAmong (kept l) rs ⊎ (l ≡ end_of a since)
end_of_walk a l rs since (inl k) = inl k
end_of_walk a l rs [] (inr e) = inr (same_there (Some a) l a e refl)
end_of_walk a l rs (q ∷ since) (inr e) = inr (same_there (Some q) l q e refl)

-- where nothing is since it, the hinge
kept_end : (a l : Point) (rs : List Rec) → IsAmong (kept a) rs → IsAmong (kept l) rs ⊎ (l ≡ a)
    → IsAmong (kept l) rs
kept_end a l rs there (inl k) = k
kept_end a l rs there (inr e) = subst (λ z. IsAmong (kept z) rs) (sym e) there

-- between two ends with none kept between them, every value sent is near, where nothing was passed over
span_hung : (o : Origin) (ss : List Sent) (rs : List Rec) (a : Point) (since passed : List Point)
    → RisesInTime ss → IsHung o ss rs a since passed → (l r : Point)
    → IsAmong (kept l) rs ⊎ (l ≡ end_of a since) → IsAmong (kept r) rs ⊎ (r ≡ end_of a since)
    → l.t < r.t → NoneKept rs l r → IsSpan o ss passed l r
span_hung o ss rs a [] passed rises i l r left right =
    let hinge_kept = i.chain.hinge_kept in
    i.chain.spans l r (kept_end a l rs hinge_kept left) (kept_end a r rs hinge_kept right)
span_hung o ss rs a (q ∷ since) passed rises i l r left right =
    spans_kept o ss rs passed a q rises i.chain (i.values.after q (inl refl))
    (last_span o ss a q since passed rises (i.chain.kept_sent a i.chain.hinge_kept) i.values) l r left right

-- the same of a walk, whether or not it has begun
pub span_walked : (o : Origin) (ss : List Sent) (rs : List Rec) (hinge : Option Point)
    (since passed : List Point) → RisesInTime ss → IsWalked o ss rs hinge since passed → (l r : Point)
    → IsEnd l rs (last_since_hinge hinge since) → IsEnd r rs (last_since_hinge hinge since) → l.t < r.t → NoneKept rs l r
    → IsSpan o ss passed l r
span_walked o ss rs None [] passed rises i l r left right = λ lr none x there. absurd (i.none_sent x there)
span_walked o ss rs None (q ∷ since) passed rises i l r left right = absurd i
span_walked o ss rs (Some a) since passed rises i l r left right =
    span_hung o ss rs a since passed rises i l r (end_of_walk a l rs since left)
    (end_of_walk a r rs since right)

-- what is kept was sent
pub kept_was_sent : (o : Origin) (ss : List Sent) (rs : List Rec) (hinge : Option Point)
    (since passed : List Point) → IsWalked o ss rs hinge since passed → (l : Point) → IsAmong (kept l) rs
    → IsAmong (InOrder l) ss
kept_was_sent o ss rs None [] passed i l k = absurd (i.none_kept l k)
kept_was_sent o ss rs None (q ∷ since) passed i l k = absurd i
kept_was_sent o ss rs (Some a) since passed i l k = i.chain.kept_sent l k

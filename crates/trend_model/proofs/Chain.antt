-- The chain of kept points: on each span between neighbours every value sent is near the line or the stair, unless
-- a value was passed over there.
use Rattle.std.proofs.Common.{◌≡◌, ℕ, ◌<◌, ◌≤◌, ◌⊎◌, inl, inr, Bool, true, false, List, [], ◌∷◌, ◌++◌, refl, sym, ap, ◌∙◌, subst, arith}
use Rattle.std.proofs.lemmas.Int.{ints}
use Rattle.std.proofs.Math.Nat.{lt_of_not-le}
use Rattle.trend_num.specs.{Point, Rec, Tuning}
use Rattle.trend_model.specs.{IsAmong, Origin, Sent, InOrder, Late, Tuned, RisesInTime, IsNear}
use Rattle.trend_model.specs.Walk.{kept, late}
use Rattle.trend_model.proofs.Near.{within_left, within_right}
use Rattle.trend_model.proofs.Order.{same_in_order, not_late, time_of, time_of_sent}
use Rattle.trend_model.proofs.SentTunings.{IsMade, made_more}

-- ---- members of lists

-- a member of two lists is one of the first or of the second
pub among_of_append : {A : Type 0} (x : A) (xs ys : List A) → IsAmong x (xs ++ ys)
    → IsAmong x xs ⊎ IsAmong x ys
among_of_append x [] ys there = inr there
among_of_append x (z ∷ xs) ys (inl e) = inl (inl e)
among_of_append x (z ∷ xs) ys (inr there) =
    elim (among_of_append x xs ys there) [ inl h ↦ inl (inr h) | inr h ↦ inr h ]

-- a member of the first is one of both
pub among_left : {A : Type 0} (x : A) (xs ys : List A) → IsAmong x xs → IsAmong x (xs ++ ys)
among_left x [] ys there = absurd there
among_left x (z ∷ xs) ys (inl e) = inl e
among_left x (z ∷ xs) ys (inr there) = inr (among_left x xs ys there)

-- and so is a member of the second
pub among_right : {A : Type 0} (x : A) (xs ys : List A) → IsAmong x ys → IsAmong x (xs ++ ys)
among_right x [] ys there = there
among_right x (z ∷ xs) ys there = inr (among_right x xs ys there)

-- ---- kept points

-- one record keeps one point
pub same_kept : (x y : Point) → kept x ≡ kept y → x ≡ y
same_kept x y e = ap (λ (r : Rec). r.point) e

-- a late record keeps none
late_not_kept : {P : Type 0} (x y : Point) → kept x ≡ late y → P
late_not_kept x y e = grind arith

-- a point is kept already, or is the one that is kept now
pub kept_of_more : (x q : Point) (rs : List Rec) → IsAmong (kept x) (rs ++ (kept q ∷ []))
    → IsAmong (kept x) rs ⊎ (x ≡ q)
kept_of_more x q rs there = elim (among_of_append (kept x) rs (kept q ∷ []) there) [
  | inl h ↦ inl h
  | inr h ↦ elim h [ inl e ↦ inr (same_kept x q e) | inr none ↦ absurd none ]
]

-- a late record adds none that is kept
pub kept_of_late : (x y : Point) (rs : List Rec) → IsAmong (kept x) (rs ++ (late y ∷ []))
    → IsAmong (kept x) rs
kept_of_late x y rs there = elim (among_of_append (kept x) rs (late y ∷ []) there) [
  | inl h ↦ h
  | inr h ↦ elim h [ inl e ↦ late_not_kept x y e | inr none ↦ absurd none ]
]

-- ---- what was sent

-- two values sent in order at one time are the same
pub same_time : (ss : List Sent) → RisesInTime ss → (x y : Point) → IsAmong (InOrder x) ss
    → IsAmong (InOrder y) ss → x.t ≡ y.t → x ≡ y
same_time [] rises x y here there e = absurd here
same_time (Late z ∷ ss) rises x y (inl a) there e = not_late x z a
same_time (Late z ∷ ss) rises x y (inr here) (inl b) e = not_late y z b
same_time (Late z ∷ ss) rises x y (inr here) (inr there) e = same_time ss rises x y here there e
same_time (Tuned u ∷ ss) rises x y (inl a) there e = absurd (cc)
same_time (Tuned u ∷ ss) rises x y (inr here) (inl b) e = absurd (cc)
same_time (Tuned u ∷ ss) rises x y (inr here) (inr there) e = same_time ss rises x y here there e
same_time (InOrder z ∷ ss) rises x y (inl a) (inl b) e = same_in_order x z a ∙ sym (same_in_order y z b)
same_time (InOrder z ∷ ss) rises x y (inl a) (inr there) e =
    let at = time_of_sent x z a in
    let below = rises.0 y there in absurd (omega arith)
same_time (InOrder z ∷ ss) rises x y (inr here) (inl b) e =
    let at = time_of_sent y z b in
    let below = rises.0 x here in absurd (omega arith)
same_time (InOrder z ∷ ss) rises x y (inr here) (inr there) e = same_time ss rises.1 x y here there e

-- what rises did so before its last part
pub rest_rises : (s : Sent) (ss : List Sent) → RisesInTime (s ∷ ss) → RisesInTime ss
rest_rises (Late x) ss rises = rises
rest_rises (Tuned u) ss rises = rises
rest_rises (InOrder p) ss rises = rises.1

-- a value sent that is not after an older one is older than what was sent last
pub older : (s : Sent) (x r : Point) (ss : List Sent) → RisesInTime (s ∷ ss) → IsAmong (InOrder r) ss
    → x.t ≤ r.t → IsAmong (InOrder x) (s ∷ ss) → IsAmong (InOrder x) ss
older s x r ss rises before below (inr there) = there
older (Late y) x r ss rises before below (inl e) = not_late x y e
older (Tuned u) x r ss rises before below (inl e) = absurd (cc)
older (InOrder p) x r ss rises before below (inl e) =
    let at = time_of_sent x p e in
    let above = rises.0 r before in absurd (omega arith)

-- ---- spans

-- what is not before is at or after
pub not_before : (m n : ℕ) → (m < n → ⊥) → n ≤ m
not_before m n no_less = grind (arith, lt_of_not-le)

-- the left end of a line or a stair is near it
pub near_left : (step : Bool) (l r : Point) (d : ℕ) → IsNear step l r l d
near_left false l r d = within_left l r d
near_left true l r d = λ before. omega (arith, ints)

-- and so is its right end
pub near_right : (step : Bool) (l r : Point) (d : ℕ) → IsNear step l r r d
near_right false l r d = within_right l r d
near_right true l r d = λ before. absurd (omega arith)

-- none of these is kept between l and r
abbrev pub NoneKept : List Rec → Point → Point → Type 0
NoneKept rs l r = (k : Point) → IsAmong (kept k) rs → l.t < k.t → r.t ≤ k.t

-- none of these was passed over between l and r
abbrev pub IsClear : List Point → Point → Point → Type 0
IsClear passed l r = (y : Point) → IsAmong y passed → l.t < y.t → r.t ≤ y.t

-- x is near the line or the stair from l to r by the tuning under which r was made, as x was
pub record IsSpanNear (o : Origin) (ss : List Sent) (l r x : Point) : Type 0 where
  pub tuning : Tuning
  pub right_made : IsMade o.tuning tuning r ss
  pub made : l.t < x.t → IsMade o.tuning tuning x ss
  pub near : IsNear o.step l r x tuning.comp_dev

-- so is each value that was sent there, unless one was passed over
abbrev pub IsSpan : Origin → List Sent → List Point → Point → Point → Type 0
IsSpan o ss passed l r =
    (x : Point) → IsAmong (InOrder x) ss → l.t ≤ x.t → x.t ≤ r.t → IsClear passed l r → IsSpanNear o ss l r x

-- the kept points of these records, the last of which is a
pub record IsChain (o : Origin) (ss : List Sent) (rs : List Rec) (passed : List Point) (a : Point) : Type 0
  where
    pub kept_sent : (x : Point) → IsAmong (kept x) rs → IsAmong (InOrder x) ss
    pub hinge_kept : IsAmong (kept a) rs
    pub hinge_last : (x : Point) → IsAmong (kept x) rs → x.t ≤ a.t
    pub spans : (l r : Point) → IsAmong (kept l) rs → IsAmong (kept r) rs → l.t < r.t → NoneKept rs l r
        → IsSpan o ss passed l r

-- a late record leaves the chain
pub chain_recorded : (o : Origin) (ss : List Sent) (rs : List Rec) (passed : List Point) (a y : Point)
    → IsChain o ss rs passed a → IsChain o ss (rs ++ (late y ∷ [])) passed a
chain_recorded o ss rs passed a y i = record {
  kept_sent = λ x k. i.kept_sent x (kept_of_late x y rs k);
  hinge_kept = among_left (kept a) rs (late y ∷ []) i.hinge_kept;
  hinge_last = λ x k. i.hinge_last x (kept_of_late x y rs k);
  spans = λ l r kl kr lr none. i.spans l r (kept_of_late l y rs kl) (kept_of_late r y rs kr) lr
      (λ k there. none k (among_left (kept k) rs (late y ∷ []) there));
}

-- so does what is sent next, and what is passed over in addition to what was
pub chain_more : (o : Origin) (s : Sent) (ss : List Sent) (rs : List Rec) (passed more : List Point)
    (a : Point) → RisesInTime (s ∷ ss) → ((y : Point) → IsAmong y passed → IsAmong y more)
    → IsChain o ss rs passed a → IsChain o (s ∷ ss) rs more a
chain_more o s ss rs passed more a rises within i = record {
  kept_sent = λ x k. inr (i.kept_sent x k);
  hinge_kept = i.hinge_kept;
  hinge_last = i.hinge_last;
  spans = λ l r kl kr lr none x there lx xr clear. (
      let old = older s x r ss rises (i.kept_sent r kr) xr there in
      let n = i.spans l r kl kr lr none x old lx xr (λ y h. clear y (within y h)) in
      record {
        tuning = n.tuning;
        right_made = made_more o.tuning n.tuning r s ss n.right_made;
        made = λ lx. made_more o.tuning n.tuning x s ss (n.made lx);
        near = n.near;
      });
}

-- the first point is kept
pub chain_first : (o : Origin) (ss : List Sent) (rs : List Rec) (passed : List Point) (p : Point)
    → ((x : Point) → IsAmong (kept x) rs → ⊥) → IsChain o (InOrder p ∷ ss) (rs ++ (kept p ∷ [])) passed p
chain_first o ss rs passed p none = grind (arith, among_right, time_of, kept_of_more)

-- a span between kept points once q is kept after a
pub spans_kept : (o : Origin) (ss : List Sent) (rs : List Rec) (passed : List Point) (a q : Point)
    → RisesInTime ss → IsChain o ss rs passed a → a.t < q.t → IsSpan o ss passed a q → (l r : Point)
    → IsAmong (kept l) rs ⊎ (l ≡ q) → IsAmong (kept r) rs ⊎ (r ≡ q) → l.t < r.t → NoneKept rs l r
    → IsSpan o ss passed l r
spans_kept o ss rs passed a q rises i after last l r (inl kl) (inl kr) lr none = i.spans l r kl kr lr none
spans_kept o ss rs passed a q rises i after last l r (inr el) (inl kr) lr none =
    let left = time_of l q el in
    let right = i.hinge_last r kr in absurd (omega arith)
spans_kept o ss rs passed a q rises i after last l r (inr el) (inr er) lr none =
    let left = time_of l q el in
    let right = time_of r q er in absurd (omega arith)
spans_kept o ss rs passed a q rises i after last l r (inl kl) (inr er) lr none =
    let right = time_of r q er in
    let below = i.hinge_last l kl in
    let above : a.t ≤ l.t =
    not_before l.t a.t (λ la. (let beyond = none a i.hinge_kept la in absurd (omega arith))) in
    let left : l ≡ a = same_time ss rises l a (i.kept_sent l kl) (i.kept_sent a i.hinge_kept) (omega arith) in
    subst (λ z. IsSpan o ss passed z r) (sym left) (subst (λ z. IsSpan o ss passed a z) (sym er) last)

-- q is kept after a
pub chain_keeps : (o : Origin) (ss : List Sent) (rs : List Rec) (passed : List Point) (a q : Point)
    → RisesInTime ss → IsChain o ss rs passed a → IsAmong (InOrder q) ss → a.t < q.t → IsSpan o ss passed a q
    → IsChain o ss (rs ++ (kept q ∷ [])) passed q
chain_keeps o ss rs passed a q rises i sent_q after last = record {
  kept_sent = grind (arith, kept_of_more);
  hinge_kept = among_right (kept q) rs (kept q ∷ []) (inl refl);
  hinge_last = λ x k. elim (kept_of_more x q rs k) [
    | inl h ↦ (let before = i.hinge_last x h in omega arith)
    | inr e ↦ (let at = time_of x q e in omega arith)
  ];
  spans = λ l r kl kr lr none.
      spans_kept o ss rs passed a q rises i after last l r (kept_of_more l q rs kl) (kept_of_more r q rs kr)
      lr (λ k there. none k (among_left (kept k) rs (kept q ∷ []) there));
}

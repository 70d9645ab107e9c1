-- Rising lists of points.
use Rattle.std.proofs.Common.{◌≡◌, ℕ, zero, suc, ◌<◌, ◌≤◌, inl, inr, cond, nat_lt, List, [], ◌∷◌, ◌++◌, None, Some, All, length, take, drop, refl, sym, ap, ◌∙◌, subst, arith}
use Rattle.std.specs.Prelude.{count_by, slice_get}
use Rattle.std.proofs.lemmas.Bool.{cases_lt, lt-ltb, le-ltb}
use Rattle.std.proofs.lemmas.List.Elements.{All-nil, All-cons, All-head, All-tail}
use Rattle.std.proofs.lemmas.List.Sums.{sum_by-cons}
use Rattle.trend_num.specs.{Rec, Point}
use Rattle.trend_model.specs.{points_of, IsAmong, PointsRise, RisesAfter, last_point}
use Rattle.trend_model.proofs.WindowLaw.{rises_rest}

-- before a time, and not before it
abbrev pub Before : ℕ → Point → Type 0
Before t p = p.t < t

abbrev pub From : ℕ → Point → Type 0
From t p = t ≤ p.t

-- a fact of all points is one of each among them, and the other way round
pub among_all : (P : Point → Type 0) (ps : List Point) → All P ps → (x : Point) → IsAmong x ps → P x
among_all P [] all x in_it = absurd in_it
among_all P (p ∷ ps) all x in_it =
    elim in_it [
      | inl same ↦ subst P (sym same) (All-head P p ps all)
      | inr later ↦ among_all P ps (All-tail P p ps all) x later
    ]

pub all_among : (P : Point → Type 0) (ps : List Point) → ((x : Point) → IsAmong x ps → P x) → All P ps
all_among P [] each = All-nil P
all_among P (p ∷ ps) each = All-cons P p ps (each p (inl refl))
    (all_among P ps (λ x in_it. each x (inr in_it)))

-- ---- ends of a list

-- the last point of a list, with the others before it
pub last_parts : (ps : List Point) (p : Point) → last_point ps ≡ Some p
    → (xs : List Point) × (ps ≡ xs ++ p ∷ [])
last_parts [] p last = cc
last_parts (x ∷ []) p last = let same : x ≡ p = cc in ([], ap (λ y. y ∷ []) same)
last_parts (x ∷ y ∷ ps) p last = let rest = last_parts (y ∷ ps) p last in (x ∷ rest.0, ap (λ l. x ∷ l) rest.1)

pub no_last : (ps : List Point) → last_point ps ≡ None → ps ≡ []
no_last [] none = refl
no_last (x ∷ []) none = cc
no_last (x ∷ y ∷ ps) none = let rest = no_last (y ∷ ps) none in cc

pub last_push : (ps : List Point) (q : Point) → last_point (ps ++ q ∷ []) ≡ Some q
last_push [] q = refl
last_push (x ∷ []) q = refl
last_push (x ∷ y ∷ ps) q = last_push (y ∷ ps) q

-- the first point of a list
pub first_parts : (ps : List Point) (p : Point) → slice_get ps 0 ≡ Some p → (xs : List Point) × (ps ≡ p ∷ xs)
first_parts [] p first = cc
first_parts (x ∷ xs) p first = let same : x ≡ p = cc in (xs, ap (λ y. y ∷ xs) same)

pub no_first : (ps : List Point) → slice_get ps 0 ≡ None → ps ≡ []
no_first [] none = refl
no_first (x ∷ xs) none = cc

-- the first of the points from a place on
pub first_drop : (ps : List Point) (n : ℕ) → slice_get (drop n ps) 0 ≡ slice_get ps n
first_drop [] zero = refl
first_drop [] (suc n) = refl
first_drop (x ∷ xs) zero = refl
first_drop (x ∷ xs) (suc n) = first_drop xs n

-- ---- rising lists

-- a point after all the others goes to the end
pub rises_push : (ps : List Point) (q : Point) → PointsRise ps → All (Before q.t) ps
    → PointsRise (ps ++ q ∷ [])
rises_push [] q rises before = tt
rises_push (p ∷ ps) q rises before = after p ps rises before
  where
    after : (x : Point) (xs : List Point) → RisesAfter x xs → All (Before q.t) (x ∷ xs)
        → RisesAfter x (xs ++ q ∷ [])
    after x [] r h = (All-head (Before q.t) x [] h, tt)
    after x (y ∷ xs) r h = (r.0, after y xs r.1 (All-tail (Before q.t) x (y ∷ xs) h))

-- what comes after a point that is not before t is not before it
pub from_after : (t : ℕ) (p : Point) (ps : List Point) → RisesAfter p ps → t ≤ p.t → All (From t) ps
from_after t p [] rises from = All-nil (From t)
from_after t p (x ∷ xs) rises from =
    All-cons (From t) x xs (omega (arith, rises.0)) (from_after t x xs rises.1 (omega (arith, rises.0)))

-- ---- how many points are before a time

-- none, where the first is not
none_before : (t : ℕ) (l : List Rec) → All (From t) (points_of l) → count_by (λ r. nat_lt r.point.t t) l ≡ 0
none_before t [] from = refl
none_before t (r ∷ l) from =
    let first : t ≤ r.point.t = All-head (From t) r.point (points_of l) from in
    let rest = none_before t l (All-tail (From t) r.point (points_of l) from) in
    sum_by-cons (λ x. cond {A = ℕ} (nat_lt x.point.t t) 1 0) r l ∙ rw (le-ltb r.point.t t first, rest) refl

-- a place in a list of points up to which all are before t, and from which on none is
pub record IsGapAt (ps : List Point) (t n : ℕ) : Type 0 where
  pub before : All (Before t) (take n ps)
  pub from : All (From t) (drop n ps)
  pub within : n ≤ length ps

-- of a rising list the points before a time are the first ones
pub gap_at : (t : ℕ) (l : List Rec) → PointsRise (points_of l)
    → IsGapAt (points_of l) t (count_by (λ r. nat_lt r.point.t t) l)
gap_at t [] rises = record { before = All-nil (Before t); from = All-nil (From t); within = omega arith }
gap_at t (r ∷ l) rises =
    let ps = points_of l in
    let n = count_by (λ x. nat_lt x.point.t t) l in
    let count = sum_by-cons (λ x. cond {A = ℕ} (nat_lt x.point.t t) 1 0) r l in
    elim (cases_lt r.point.t t) [
      | inl before ↦
          let rest = gap_at t l (rises_rest r.point ps rises) in
          let more : count_by (λ x. nat_lt x.point.t t) (r ∷ l) ≡ suc n = count
          ∙ rw (lt-ltb r.point.t t before) (omega arith) in
          rw more (record {
            before = All-cons (Before t) r.point (take n ps) before rest.before;
            from = rest.from;
            within = omega (arith, rest.within);
          })
      | inr from ↦
          let all = All-cons (From t) r.point ps from (from_after t r.point ps rises from) in
          rw (none_before t (r ∷ l) all) (record
          { before = All-nil (Before t); from = all; within = omega arith })
    ]

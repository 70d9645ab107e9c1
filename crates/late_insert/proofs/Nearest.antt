-- The points next to a time, from the place of the first one that is not before it.
use Rattle.std.proofs.Common.{◌≡◌, ◌≢◌, ℕ, zero, suc, ◌+◌, ◌-◌, ◌<◌, ◌≤◌, inl, inr, cond, List, [], ◌∷◌, length, get_or, take, drop, Some, None, All, Contains, refl, sym, ap, ◌∙◌, subst, arith}
use Rattle.std.specs.Prelude.{count_by, nat_lt, slice_get}
use Rattle.std.proofs.lemmas.List.{get_or-take, get_or-drop, get_or_default, get_or-map, length-map, length-take-le, length-drop}
use Rattle.std.proofs.lemmas.Option.{slice_get-get_or, slice_get_within, get_or_from_slice_get}
use Rattle.std.proofs.lemmas.List.Elements.{All-head, All-tail}
use Rattle.std.proofs.lemmas.Bool.{cases_lt, cases_eq, eq-eqb, ne_eqb}
use Rattle.trend_num.specs.{Point, Rec}
use Rattle.trend_model.specs.{late_at, is_late_record, IsRising, IsFloor, IsCeil, points_of}
use Rattle.late_insert.specs.{StandsAt}
use Rattle.trend_model.proofs.Placing.{time, rising_head, rising_tail}
use Rattle.late_insert.proofs.Reading.{count_gap}
use Rattle.late_insert.proofs.Found.{found, late_found, late_is}

-- a point of a list
pub point_get : (l : List Rec) (i : ℕ) (r : Rec) → i < length l → get_or l i r ≡ r
    → slice_get (points_of l) i ≡ Some r.point
point_get l i r within is =
    slice_get-get_or (points_of l) i r.point (omega (arith, length-map l (λ (x : Rec). x.point)))
    ∙ ap Some (get_or-map (λ (x : Rec). x.point) l i r r.point within ∙ ap (λ (x : Rec). x.point) is)

point_there : (l : List Rec) (i : ℕ) (r : Rec) → i < length l → get_or l i r ≡ r
    → Contains (points_of l) r.point
point_there l i r within is = (
  i,
  omega (arith, length-map l (λ (x : Rec). x.point)),
  get_or-map (λ (x : Rec). x.point) l i r r.point
      within ∙ ap (λ (x : Rec). x.point) is,
)

-- the record that is found at the time of one of a rising list
found_at : (l : List Rec) (i : ℕ) (d : Rec) → IsRising l → i < length l → found l (time (get_or l i d)) ≡ Some
    (get_or l i d)
found_at [] i d rises within = absurd (omega arith)
found_at (x ∷ xs) zero d rises within = rw (eq-eqb (time x) (time x) refl) refl
found_at (x ∷ xs) (suc i) d rises within =
    let later = rising_head x xs rises i d (omega arith) in
    rw (ne_eqb (time x) (time (get_or xs i d)) (omega arith))
    (found_at xs i d (rising_tail x xs rises) (omega arith))

found_none : (l : List Rec) (t : ℕ) → All (λ r. time r ≢ t) l → found l t ≡ None
found_none [] t none = refl
found_none (x ∷ xs) t none =
    rw (ne_eqb (time x) t (All-head (λ r. time r ≢ t) x xs none))
    (found_none xs t (All-tail (λ r. time r ≢ t) x xs none))

module _ (l : List Rec) (t n : ℕ) (rises : IsRising l) (within : n ≤ length l)
    (before : All (λ r. time r < t) (take n l))
    (after : All (λ r. t ≤ time r) (drop n l)) where
  before_at : (j : ℕ) (d : Rec) → j < n → time (get_or l j d) < t
  before_at j d less =
      subst (λ r. time r < t) (get_or-take n l j d less)
      (before j d (omega (arith, length-take-le n l within)))

  after_at : (j : ℕ) (d : Rec) → n ≤ j → j < length l → t ≤ time (get_or l j d)
  after_at j d from inside =
      let place : n + (j - n) ≡ j = omega arith in
      let here : get_or (drop n l) (j - n) d ≡ get_or l j d = get_or-drop n l (j - n) d
      ∙ ap (λ m. get_or l m d) place in
      subst (λ r. t ≤ time r) here (after (j - n) d (omega (arith, length-drop n l)))

  -- no record is at the time, where the first one from it on is not
  beyond : (j : ℕ) (d : Rec) → ((r : Rec) → StandsAt l n t r → ⊥) → n ≤ j → j < length l
      → t < time (get_or l j d)
  beyond j d other from inside =
      let first = get_or l n d in
      let least = after_at n d (omega arith) (omega arith) in
      let ne : time first ≢ t = λ same. other first
      (record { within = omega arith; there = get_or_default l n first d (omega arith); time = same }) in
      elim (cases_eq n j) [
        | inl same ↦ rw (← same) (omega arith)
        | inr apart ↦ let rise = rises n j d (omega arith) inside in omega arith
      ]

  -- how many records are before the next time
  count_at : (m : ℕ) → m ≤ length l → ((j : ℕ) (d : Rec) → j < m → time (get_or l j d) < t + 1)
      → ((j : ℕ) (d : Rec) → m ≤ j → j < length l → t + 1 ≤ time (get_or l j d))
      → m ≡ count_by (λ r. nat_lt (time r) (t + 1)) l
  count_at m upto low high =
      count_gap (t + 1) m l upto
      (λ j d inside.
      let reach : j < m = omega (arith, length-take-le m l upto) in
      subst (λ r. time r < t + 1) (sym (get_or-take m l j d reach)) (low j d reach))
      (λ j d inside.
      subst (λ r. t + 1 ≤ time r) (sym (get_or-drop m l j d))
      (high (m + j) d (omega arith) (omega (arith, length-drop m l))))

  -- where a point is at the time
  pub upto_there : (q : Point) → slice_get (points_of l) n ≡ Some q → q.t ≡ t
      → n + 1 ≡ count_by (λ r. nat_lt (time r) (t + 1)) l
  upto_there q there same =
      let inside : n < length l = omega (
        arith,
        slice_get_within (points_of l) n q there,
        length-map l
            (λ (r : Rec). r.point),
      ) in
      let here : (d : Rec) → time (get_or l n d) ≡ t =
      λ d. ap (λ (p : Point). p.t) (sym (get_or-map (λ (r : Rec). r.point) l n d q inside)
      ∙ get_or_from_slice_get (points_of l) n q q there) ∙ same in
      count_at (n + 1) (omega arith)
      (λ j d less. elim (cases_lt j n) [
        | inl early ↦ let first = before_at j d early in omega arith
        | inr late ↦ let at : j ≡ n = omega arith in let there = here d in rw at (omega arith)
      ])
      (λ j d from reach. let rise = rises n j d (omega arith) reach in let first = here d in omega arith)

  -- and where none does
  pub upto_gap : ((q : Point) → slice_get (points_of l) n ≡ Some q → q.t ≢ t)
      → n ≡ count_by (λ r. nat_lt (time r) (t + 1)) l
  upto_gap other =
      count_at n within
      (λ j d less. let early = before_at j d less in omega arith)
      (λ j d from reach.
      let late = beyond j d (λ r at. other r.point (point_get l n r at.within at.there) at.time) from
      reach in
      omega arith)

  pub floor_there : (r : Rec) → StandsAt l n t r → IsFloor t l (Some r.point)
  floor_there r at = (
    point_there l n r at.within at.there,
    omega (arith, at.time),
    λ j d reach upto. omega
        (arith, at.time),
  )

  pub floor_before : (r : Rec) → 0 < n → get_or l (n - 1) r ≡ r → ((r : Rec) → StandsAt l n t r → ⊥)
      → IsFloor t l (Some r.point)
  floor_before r some is other =
      let last : time r < t = subst (λ x. time x < t) is (before_at (n - 1) r (omega arith)) in (
        point_there l (n - 1) r (omega arith) is,
        omega arith,
        λ j d reach upto. elim (cases_lt j n) [
          | inl less ↦ elim (cases_eq j (n - 1)) [
            | inl same ↦
                let here = ap time (ap (λ m. get_or l m d) same
                ∙ (get_or_default l (n - 1) d r (omega arith) ∙ is)) in
                omega arith
            | inr apart ↦
                let rise = rises j (n - 1) d (omega arith) (omega arith) in
                let here = ap time (get_or_default l (n - 1) d r (omega arith) ∙ is) in
                omega arith
          ]
          | inr from ↦ let past = beyond j d other from reach in absurd (omega arith)
        ],
      )

  pub floor_none : n ≡ 0 → ((r : Rec) → StandsAt l n t r → ⊥) → IsFloor t l None
  floor_none none other j d reach = beyond j d other (omega arith) reach

  pub ceil_none : n ≡ length l → IsCeil t l None
  ceil_none none j d reach = before_at j d (omega arith)

  pub ceil_there : (r : Rec) → n < length l → get_or l n r ≡ r → IsCeil t l (Some r.point)
  ceil_there r inside is =
      let first : t ≤ time r = subst (λ x. t ≤ time x) is (after_at n r (omega arith) inside) in (
        point_there l n r inside is,
        first,
        λ j d reach from. elim (cases_lt j n) [
          | inl less ↦ let early = before_at j d less in absurd (omega arith)
          | inr at ↦
              let here = ap time (get_or_default l n d r inside ∙ is) in
              elim (cases_eq n j) [
                | inl same ↦ let there = ap time (ap (λ m. get_or l m d) (sym same)) in omega arith
                | inr apart ↦ let rise = rises n j d (omega arith) reach in omega arith
              ]
        ],
      )

  -- whether a Late record is at the time
  pub late_there : (r : Rec) → StandsAt l n t r → late_at l t ≡ cond (is_late_record r.kind) (Some r.point.v)
      None
  late_there r at =
      let here = found_at l n r rises at.within in
      late_is l rises t ∙ ap late_found (ap (found l) (sym at.time ∙ ap time (sym at.there))
      ∙ (here ∙ ap Some at.there))

  pub late_nowhere : ((r : Rec) → StandsAt l n t r → ⊥) → late_at l t ≡ None
  late_nowhere other =
      let none : All (λ r. time r ≢ t) l = λ j d reach. elim (cases_lt j n) [
        | inl less ↦ λ same. let early = before_at j d less in absurd (omega arith)
        | inr at ↦ λ same. let past = beyond j d other at reach in absurd (omega arith)
      ] in
      late_is l rises t ∙ ap late_found (found_none l t none)

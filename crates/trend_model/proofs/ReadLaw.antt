-- Reads of a rising list of points.
use Rattle.std.proofs.Common.{◌≡◌, ℕ, zero, suc, ◌-◌, ◌*◌, ◌<◌, ◌≤◌, inl, inr, ℤ, pos, negsuc, ◌+ℤ◌, ◌-ℤ◌, ◌*ℤ◌, ◌≤ℤ◌, Bool, true, false, cond, nat_eq, List, [], ◌∷◌, ◌++◌, Option, None, Some, refl, sym, ap, ◌∙◌, arith}
use Rattle.std.specs.Option.{option_or}
use Rattle.std.proofs.lemmas.Bool.{cases_eq, cases_lt, eq-eqb, ne_eqb, lt-ltb, le-ltb}
use Rattle.std.proofs.lemmas.Int.{ints}
use Rattle.std.proofs.Math.Nat.{mul-le-mul_left}
use Rattle.trend_num.specs.{Rec, Frac, Point, Reading, line_value}
use Rattle.trend_num.specs.declared.reading.Reading.TheVariants.{Exact, Line, Flat, Nothing}
use Rattle.trend_model.specs.{content_at, is_late_record, kept_at, late_at, IsClosedContentOf, IsRising, points_of, IsAmong, PointsRise, RisesAfter, IsBetween, IsFracBetween, between, read_at, read_from, rounded, value_read, lesser}
use Rattle.trend_model.specs.{greater}
use Rattle.trend_model.proofs.Rounding.{add_times, not_under, rounded_next}

-- ---- exact reads

-- the value of the point at a time
abbrev pub there : List Point → ℕ → Option ℤ
there [] t = None
there (p ∷ ps) t = cond (nat_eq p.t t) (Some p.v) (there ps t)

-- the value of an exact read
abbrev exact_value : Reading → Option ℤ
exact_value (Exact v) = Some v
exact_value (Line f) = None
exact_value (Flat v) = None
exact_value Nothing = None

-- it is the read's only value
is_exact : (r : Reading) (v : ℤ) → exact_value r ≡ Some v → r ≡ Exact v
is_exact (Exact w) v h = cc
is_exact (Line f) v h = cc
is_exact (Flat w) v h = cc
is_exact Nothing v h = cc

-- a point that comes later is later
pub among_after : (x : Point) (xs : List Point) (p : Point) → RisesAfter x xs → IsAmong p xs → x.t < p.t
among_after x [] p rises in_it = absurd in_it
among_after x (y ∷ ys) p rises in_it =
    elim in_it [
      | inl same ↦ rw same rises.0
      | inr later ↦ let more = among_after y ys p rises.1 later in omega (arith, rises.0, more)
    ]

-- no point is before the first
none_there : (p : Point) (ps : List Point) (t : ℕ) → RisesAfter p ps → t ≤ p.t → there ps t ≡ None
none_there p [] t rises early = refl
none_there p (q ∷ ps) t rises early =
    rw (ne_eqb q.t t (omega (arith, rises.0))) (none_there q ps t rises.1 (omega (arith, rises.0)))

-- a line or a stair between two points is not exact
between_is_not_exact : (step : Bool) (p q : Point) (t : ℕ) → exact_value (between step p q t) ≡ None
between_is_not_exact true p q t = refl
between_is_not_exact false p q t = refl

-- from a point on a read is exact where there is a point
exact-read_from : (step : Bool) (p : Point) (ps : List Point) (t : ℕ) → RisesAfter p ps
    → exact_value (read_from step p ps t) ≡ there (p ∷ ps) t
exact-read_from step p [] t rises =
    elim (nat_eq p.t t) as (λ b. exact_value (cond b (Exact p.v) (Flat p.v)) ≡ cond b (Some p.v) None) [
      | true ↦ refl
      | false ↦ refl
    ]
exact-read_from step p (q ∷ ps) t rises =
    elim (cases_eq p.t t) [
      | inl same ↦ rw (eq-eqb p.t t same) refl
      | inr other ↦ rw (ne_eqb p.t t other) (elim (cases_lt t q.t) [
        | inl before ↦
            rw (lt-ltb t q.t before, ne_eqb q.t t (omega arith), none_there q ps t rises.1 (omega arith))
            (between_is_not_exact step p q t)
        | inr after ↦ rw (le-ltb t q.t after) (exact-read_from step q ps t rises.1)
      ])
    ]

-- a read is exact where there is a point
exact-read_at : (step : Bool) (ps : List Point) (t : ℕ) → PointsRise ps
    → exact_value (read_at step ps t) ≡ there ps t
exact-read_at step [] t rises = refl
exact-read_at step (p ∷ ps) t rises =
    elim (cases_lt t p.t) [
      | inl before ↦
          rw (lt-ltb t p.t before, ne_eqb p.t t (omega arith), none_there p ps t rises (omega arith)) refl
      | inr after ↦ rw (le-ltb t p.t after) (exact-read_from step p ps t rises)
    ]

-- a point of the list is at its time
there_among : (x : Point) (xs : List Point) (p : Point) → RisesAfter x xs → IsAmong p (x ∷ xs)
    → there (x ∷ xs) p.t ≡ Some p.v
there_among x [] p rises in_it =
    elim in_it [ inl same ↦ rw (same, eq-eqb x.t x.t refl) refl | inr never ↦ absurd never ]
there_among x (y ∷ ys) p rises in_it =
    elim in_it [
      | inl same ↦ rw (same, eq-eqb x.t x.t refl) refl
      | inr later ↦
          let after = among_after x (y ∷ ys) p rises later in
          rw (ne_eqb x.t p.t (omega arith)) (there_among y ys p rises.1 later)
    ]

-- a read at a point is exact
pub read_at_point : (step : Bool) (ps : List Point) (p : Point) → PointsRise ps → IsAmong p ps
    → read_at step ps p.t ≡ Exact p.v
read_at_point step [] p rises in_it = absurd in_it
read_at_point step (x ∷ xs) p rises in_it =
    is_exact (read_at step (x ∷ xs) p.t) p.v
    (exact-read_at step (x ∷ xs) p.t rises ∙ there_among x xs p rises in_it)

-- ---- reads between two points

-- a point is among the points of a list that it is put into
pub among_middle : (xs : List Point) (p : Point) (ys : List Point) → IsAmong p (xs ++ p ∷ ys)
among_middle [] p ys = inl refl
among_middle (x ∷ xs) p ys = inr (among_middle xs p ys)

-- a read passes over a point before another that is not after its time
read_at-cons : (step : Bool) (x q : Point) (ps : List Point) (t : ℕ) → x.t < q.t → q.t ≤ t
    → read_at step (x ∷ q ∷ ps) t ≡ read_at step (q ∷ ps) t
read_at-cons step x q ps t rises early = grind (arith, le-ltb, ne_eqb)

-- and so over all points before one
pub read_at-append : (step : Bool) (xs : List Point) (q : Point) (ps : List Point) (t : ℕ)
    → PointsRise (xs ++ q ∷ ps) → q.t ≤ t
    → read_at step (xs ++ q ∷ ps) t ≡ read_at step (q ∷ ps) t
read_at-append step [] q ps t rises early = refl
read_at-append step (x ∷ []) q ps t rises early = read_at-cons step x q ps t rises.0 early
read_at-append step (x ∷ y ∷ xs) q ps t rises early =
    let before = among_after y (xs ++ q ∷ ps) q rises.1 (among_middle xs q ps) in
    read_at-cons step x y (xs ++ q ∷ ps) t rises.0 (omega (arith, before))
    ∙ read_at-append step (y ∷ xs) q ps t rises.1 early

-- a read strictly between two neighbours
pub read_between : (step : Bool) (before after : List Point) (l r : Point) (t : ℕ)
    → PointsRise (before ++ l ∷ r ∷ after)
    → l.t < t → t < r.t → read_at step (before ++ l ∷ r ∷ after) t ≡ between step l r t
read_between step before after l r t rises low high = grind (arith, read_at-append, le-ltb, ne_eqb, lt-ltb)

-- ---- the line between two points

-- two numbers in their order
data Ordered (m n : ℤ) : Type 0 where
  rising : lesser m n ≡ m → greater m n ≡ n → m ≤ℤ n → Ordered m n
  falling : lesser m n ≡ n → greater m n ≡ m → n ≤ℤ m → Ordered m n

ordered : (m n : ℤ) → Ordered m n
ordered m n = grind (arith, ints)

-- a part of a climb is between nothing and the whole
part_of_climb : (m : ℤ) (s d : ℕ) → s ≤ d → pos 0 ≤ℤ m
    → (pos 0 ≤ℤ (m *ℤ pos s)) × ((m *ℤ pos s) ≤ℤ (m *ℤ pos d))
part_of_climb (pos m) s d part up =
    let more = mul-le-mul_left m part in (omega (arith, ints), omega (arith, ints))
part_of_climb (negsuc m) s d part up = absurd (omega (arith, ints))

part_of_fall : (m : ℤ) (s d : ℕ) → s ≤ d → m ≤ℤ pos 0
    → ((m *ℤ pos s) ≤ℤ pos 0) × ((m *ℤ pos d) ≤ℤ (m *ℤ pos s))
part_of_fall (pos zero) s d part down = (omega (arith, ints), omega (arith, ints))
part_of_fall (pos (suc m)) s d part down = absurd (omega (arith, ints))
part_of_fall (negsuc m) s d part down =
    let more = mul-le-mul_left (suc m) part in (omega (arith, ints), omega (arith, ints))

-- a line has its values between those of its ends
pub line_between : (l r : Point) (t : ℕ) → l.t < t → t < r.t → IsFracBetween l.v r.v (line_value l r t)
line_between l r t low high =
    let s = t - l.t in
    let d = r.t - l.t in
    let part : s ≤ d = omega arith in
    let climb = r.v -ℤ l.v in
    let whole : l.v +ℤ climb ≡ r.v = omega (arith, ints) in
    let end : r.v *ℤ pos d ≡ (l.v *ℤ pos d) +ℤ (climb *ℤ pos d) = rw whole at (add_times l.v climb d) in
    elim (ordered l.v r.v) [
      | rising least most order ↦
          let parts = part_of_climb climb s d part (omega (arith, ints)) in
          record {
            not_below = rw least (omega (arith, ints, parts.0));
            not_above = rw most (omega (arith, ints, parts.1, end));
          }
      | falling least most order ↦
          let parts = part_of_fall climb s d part (omega (arith, ints)) in
          record {
            not_below = rw least (omega (arith, ints, parts.1, end));
            not_above = rw most (omega (arith, ints, parts.0));
          }
    ]

-- and so are its rounded values
pub rounded_between : (u w : ℤ) (f : Frac) → 0 < f.den → IsFracBetween u w f
    → IsBetween u w (rounded f.num f.den)
rounded_between u w f some both =
    let next = rounded_next f.num f.den some in
    let z = (pos 2 *ℤ f.num) +ℤ pos f.den in
    let low = both.not_below in
    let high = both.not_above in
    let more = add_times (greater u w) (pos 1) (2 * f.den) in
    record {
      not_below =
          not_under z (rounded f.num f.den) (lesser u w) (2 * f.den) (omega (arith, ints)) next.not_below;
      not_above =
          not_under z (greater u w) (rounded f.num f.den) (2 * f.den) next.not_above (omega (arith, ints));
    }

pub value_between : (l r : Point) (t : ℕ) (n : ℤ) → l.t < t → t < r.t
    → value_read (Line (line_value l r t)) ≡ Some n → IsBetween l.v r.v n
value_between l r t n low high read =
    let f = line_value l r t in
    let is : rounded f.num f.den ≡ n = cc in
    rw is at (rounded_between l.v r.v f (omega arith) (line_between l r t low high))

-- ---- the list of a content

-- the points of a rising content rise
rises_after : (x : Rec) (l : List Rec) → IsRising (x ∷ l) → RisesAfter x.point (points_of l)
rises_after x [] rises = tt
rises_after x (y ∷ l) rises = (
  rises 0 1 x (omega arith) (omega arith),
  rises_after y l (λ i j d below within. rises (suc i) (suc j) d (omega arith) (omega arith)),
)

pub points_rise : (l : List Rec) → IsRising l → PointsRise (points_of l)
points_rise [] rises = tt
points_rise (x ∷ l) rises = rises_after x l rises

-- no record is before the first
none_recorded : (p : Point) (l : List Rec) (t : ℕ) → RisesAfter p (points_of l) → t ≤ p.t
    → (late_at l t ≡ None) × (kept_at l t ≡ None)
none_recorded p [] t rises early = (refl, refl)
none_recorded p (r ∷ l) t rises early =
    let rest = none_recorded r.point l t rises.1 (omega (arith, rises.0)) in
    let other : nat_eq r.point.t t ≡ false = ne_eqb r.point.t t (omega (arith, rises.0)) in (
      rw (rest.0, other) (neither (is_late_record r.kind)),
      rw (rest.1, other) (neither (is_late_record r.kind)),
    )
  where
    neither : (late : Bool) → cond {A = Option ℤ} late None None ≡ None
    neither true = refl
    neither false = refl

-- one record at a time, of either kind
one_recorded : (late : Bool) (v : ℤ) → option_or (cond late (Some v) None) (cond late None (Some v)) ≡ Some v
one_recorded true v = refl
one_recorded false v = refl

none_more : (late : Bool) (a b : Option ℤ)
    → option_or (option_or a (cond late None None)) (option_or b (cond late None None)) ≡ option_or a b
none_more late (Some v) b = refl
none_more true None (Some v) = refl
none_more false None (Some v) = refl
none_more true None None = refl
none_more false None None = refl

-- a content has at each time the value of its point there
content_is_there : (l : List Rec) (t : ℕ) → PointsRise (points_of l) → content_at l t ≡ there (points_of l) t
content_is_there [] t rises = refl
content_is_there (r ∷ l) t rises =
    elim (cases_eq r.point.t t) [
      | inl same ↦
          let rest = none_recorded r.point l t rises (omega arith) in
          rw (rest.0, rest.1, eq-eqb r.point.t t same) (one_recorded (is_late_record r.kind) r.point.v)
      | inr other ↦
          rw (ne_eqb r.point.t t other)
          (none_more (is_late_record r.kind) (late_at l t) (kept_at l t)
          ∙ content_is_there l t (tail_rises l rises))
    ]
  where
    tail_rises : (m : List Rec) → RisesAfter r.point (points_of m) → PointsRise (points_of m)
    tail_rises [] h = tt
    tail_rises (y ∷ m) h = h.1

-- a read of a content is exact exactly where the content has that value
exact_of_content : (l : List Rec) (step : Bool) (t : ℕ) → IsRising l
    → exact_value (read_at step (points_of l) t) ≡ content_at l t
exact_of_content l step t rises = grind (arith, points_rise, exact-read_at, content_is_there)

pub content_read : (l : List Rec) (step : Bool) (t : ℕ) (v : ℤ) → IsRising l → content_at l t ≡ Some v
    → read_at step (points_of l) t ≡ Exact v
content_read l step t v rises h =
    is_exact (read_at step (points_of l) t) v (exact_of_content l step t rises ∙ h)

pub read_content : (l : List Rec) (step : Bool) (t : ℕ) (v : ℤ) → IsRising l
    → read_at step (points_of l) t ≡ Exact v → content_at l t ≡ Some v
read_content l step t v rises h = sym (exact_of_content l step t rises) ∙ ap exact_value h

-- where records have a Late one, a closed content reads as it
pub late_read : (rs l : List Rec) (q : Option Point) (step : Bool) (t : ℕ) (v : ℤ) → IsClosedContentOf rs q l
    → late_at rs t ≡ Some v
    → read_at step (points_of l) t ≡ Exact v
late_read rs l q step t v closed late = grind (arith, content_read)

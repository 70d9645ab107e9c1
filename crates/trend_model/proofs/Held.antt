-- No record of a tag is after its held point.
use Rattle.std.proofs.Common.{◌≡◌, ℕ, ◌<◌, ◌≤◌, Bool, true, false, cond, List, [], ◌∷◌, Option, None, Some, All, refl, ap, subst, arith}
use Rattle.std.specs.Prelude.{fold}
use Rattle.std.proofs.lemmas.List.Elements.{All-nil, All-cons, All-head, All-tail, All-weaker}
use Rattle.trend_num.specs.{Rec, Summary, Point, Tuning}
use Rattle.trend_model.specs.{is_late_record, IsNotBefore, listed, placed, Event, Origin, Each, IfThere, DoorsFit, IsTagBegun, IsBegunOrBlank, IsLateBefore, IsRuled, RisesAfter, PointsRise, kept_points, last_point}
use Rattle.trend_model.specs.Walk.{records, held}
use Rattle.trend_model.proofs.Placing.{all_placed, time}
use Rattle.trend_model.proofs.HistoryLaw.{all_points, state_of, state_ruled, state_stands}

-- a point is not after q
abbrev Until : Point → Point → Type 0
Until q p = p.t ≤ q.t

-- of rising points none is after the last
until_last : (x : Point) (xs : List Point) (a : Point) → RisesAfter x xs → last_point (x ∷ xs) ≡ Some a
    → All (Until a) (x ∷ xs)
until_last x [] a rises last =
    let same : x ≡ a = cc in
    let time_is = ap (λ (p : Point). p.t) same in
    All-cons (Until a) x [] (omega arith) (All-nil (Until a))
until_last x (y ∷ ys) a rises last =
    let rest = until_last y ys a rises.1 last in
    let next : y.t ≤ a.t = All-head (Until a) y ys rest in
    let first : x.t < y.t = rises.0 in
    All-cons (Until a) x (y ∷ ys) (omega arith) rest

-- so is none of them after what is not before the last
until_held : (ps : List Point) (a q : Point) → PointsRise ps → last_point ps ≡ Some a → a.t ≤ q.t
    → All (Until q) ps
until_held [] a q rises last later = All-nil (Until q)
until_held (x ∷ xs) a q rises last later =
    All-weaker (Until a) (Until q) (λ p before. let there : p.t ≤ a.t = before in omega arith) (x ∷ xs)
    (until_last x xs a rises last)

-- the held point of a tag that has begun is not before its hinge
hinge_first : (step : Bool) (d : ℕ) (a q : Point) (u l : Option Point) → DoorsFit step d a q u l → a.t ≤ q.t
hinge_first step d a q None None doors =
    let same = ap (λ (x : Point). x.t) doors in omega arith
hinge_first step d a q (Some u) (Some l) doors = let past : a.t < q.t = doors.0 in omega arith
hinge_first step d a q None (Some l) doors = absurd doors
hinge_first step d a q (Some u) None doors = absurd doors

-- no record is after q, where no Late one is and no kept point
records_until : (rs : List Rec) (q : Point) → Each (IsLateBefore q) rs → All (Until q) (kept_points rs)
    → All (λ r. r.point.t ≤ q.t) rs
records_until [] q late kept = All-nil (λ (r : Rec). r.point.t ≤ q.t)
records_until (r ∷ rs) q late kept =
    let Fine : Rec → Type 0 = λ x. x.point.t ≤ q.t in
    elim (is_late_record r.kind) as (λ b. is_late_record r.kind ≡ b
    → All (Until q) (cond b (kept_points rs) (r.point ∷ kept_points rs)) → All Fine (r ∷ rs)) [
      | true ↦ λ is points. All-cons Fine r rs (late.0 is) (records_until rs q late.1 points)
      | false ↦ λ is points. All-cons Fine r rs (All-head (Until q) r.point (kept_points rs) points)
          (records_until rs q late.1 (All-tail (Until q) r.point (kept_points rs) points))
    ] refl kept

-- a fact of the time of each record is one of its content
all_folded : (P : ℕ → Type 0) (l rs : List Rec) → All (λ r. P (time r)) l → All (λ r. P (time r)) rs
    → All (λ r. P (time r)) (fold (λ m r. placed r m) l rs)
all_folded P l [] before each = before
all_folded P l (r ∷ rs) before each =
    all_folded P (placed r l) rs
    (all_placed P r l (All-head (λ (x : Rec). P (time x)) r rs each) before)
    (All-tail (λ (x : Rec). P (time x)) r rs each)

-- of a tag that has begun
begun_until : (step : Bool) (d : ℕ) (rs : List Rec) (held hinge u l : Option Point)
    → IsBegunOrBlank step d rs held hinge u l → IfThere (IsNotBefore (listed rs)) held
begun_until step d rs None hinge u l whole = tt
begun_until step d rs (Some q) None u l whole = absurd whole
begun_until step d rs (Some q) (Some a) u l begun =
    let begun_is : IsTagBegun step d rs q a u l = begun in
    let later = hinge_first step d a q u l begun_is.doors in
    let points = until_held (kept_points rs) a q begun_is.kept_rise begun_is.hinge_last later in
    all_folded (λ t. t ≤ q.t) [] rs (All-nil (λ (r : Rec). r.point.t ≤ q.t))
    (records_until rs q begun_is.late_before points)

-- the held point of a tag is not before any point of its content
pub held_last : (P : Point → Type 0) (u : Tuning) (step : Bool) (rs : List Rec) (s : Summary) → IsRuled P u step rs s
    → IfThere (IsNotBefore (listed rs)) s.held
held_last P u step rs s ruled = grind (arith, begun_until)

-- nor is that of a history
pub history_held_last : (o : Origin) (h : List Event) → IfThere (IsNotBefore (listed (records o h))) (held o h)
history_held_last o h =
    let s = state_of o h in
    let stands = state_stands o h in
    let ruled = state_ruled (λ p. Unit {0}) o h (all_points h) in
    subst (λ q. IfThere (IsNotBefore (listed (records o h))) q) stands.same_held
    (grind (arith, held_last))

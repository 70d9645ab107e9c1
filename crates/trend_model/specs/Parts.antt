-- Which records and which summary can be those of a tag.
use Rattle.std.specs.Prelude.{if◌then◌else◌, ◌≡◌, ℕ, ◌+◌, ◌*◌, ◌^◌, ◌<◌, ◌≤◌, ◌-ℤ◌, pos, Bool, true, false, List, [], ◌∷◌, length, Option, None, Some, unsigned_abs}
use Rattle.trend_num.specs.{most_records, Point, Rec, Summary, Tuning, InRange}
use Rattle.trend_model.specs.Lists.{Each, IfThere}
use Rattle.trend_model.specs.Content.{is_late_record}
use Rattle.trend_model.specs.Doors.{IsNotSteeper, down}

-- the kept points of records, the oldest first
abbrev pub kept_points : List Rec → List Point
kept_points [] = []
kept_points (r ∷ rs) = if is_late_record r.kind then kept_points rs else r.point ∷ kept_points rs

-- these points rise in time, and the first is after p
abbrev pub RisesAfter : Point → List Point → Type 0
RisesAfter p [] = Unit {0}
RisesAfter p (x ∷ xs) = (p.t < x.t) × RisesAfter x xs

-- the points rise in time
abbrev pub PointsRise : List Point → Type 0
PointsRise [] = Unit {0}
PointsRise (x ∷ xs) = RisesAfter x xs

-- the last of these points
abbrev pub last_point : List Point → Option Point
last_point [] = None
last_point (x ∷ []) = Some x
last_point (x ∷ y ∷ xs) = last_point (y ∷ xs)

-- there is a first record, and it is Kept
abbrev pub BeginsKept : List Rec → Type 0
BeginsKept [] = ⊥
BeginsKept (r ∷ rs) = is_late_record r.kind ≡ false

-- a Late record is not after q; of a Kept one this says nothing
abbrev pub IsLateBefore : Point → Rec → Type 0
IsLateBefore q r = is_late_record r.kind ≡ true → r.point.t ≤ q.t

-- two doors at a hinge a that admit q. They are after the hinge and not after q. The slope to q lies between that to
-- the upper one raised by d and that to the lower one lowered by d. Neither door is further open than at q
pub record AreDoorsAt (d : ℕ) (a q u l : Point) : Type 0 where
  pub upper_after : a.t < u.t
  pub upper_before : u.t ≤ q.t
  pub lower_after : a.t < l.t
  pub lower_before : l.t ≤ q.t
  pub under_upper : IsNotSteeper a q (pos 0) u (pos d)
  pub upper_not_above : IsNotSteeper a u (pos d) q (pos d)
  pub over_lower : IsNotSteeper a l (down d) q (pos 0)
  pub lower_not_below : IsNotSteeper a q (down d) l (down d)

-- the two doors of a held point q; those of a step tag are both q
abbrev pub AreFitDoors : Bool → ℕ → Point → Point → Point → Point → Type 0
AreFitDoors false d a q u l = AreDoorsAt d a q u l
AreFitDoors true d a q u l = (u ≡ q) × (l ≡ q)

-- the doors of a hinge a and a held point q: none if the held point is the hinge, else two
abbrev pub DoorsFit : Bool → ℕ → Point → Point → Option Point → Option Point → Type 0
DoorsFit step d a q None None = q ≡ a
DoorsFit step d a q (Some u) (Some l) = (a.t < q.t) × AreFitDoors step d a q u l
DoorsFit step d a q upper lower = ⊥

-- a pending value is after the held point, differs from it by at most ExcDev, and is less than ExcMax after it
abbrev pub PendingFits : Tuning → Option Point → Option Point → Type 0
PendingFits u held None = Unit {0}
PendingFits u None (Some w) = ⊥
PendingFits u (Some q) (Some w) = (q.t < w.t) × (unsigned_abs (w.v -ℤ q.v) ≤ u.exc_dev) × (w.t < q.t + u.exc_max)

-- the parts of a tag that has begun, with this held point and this hinge
pub record IsTagBegun (step : Bool) (d : ℕ) (rs : List Rec) (q a : Point) (upper lower : Option Point) : Type 0 where
  pub begins_kept : BeginsKept rs
  pub kept_rise : PointsRise (kept_points rs)
  pub hinge_last : last_point (kept_points rs) ≡ Some a
  pub late_before : Each (IsLateBefore q) rs
  pub doors : DoorsFit step d a q upper lower

-- a tag before its first value
pub record IsBlank (rs : List Rec) (upper lower : Option Point) : Type 0 where
  pub none_recorded : rs ≡ []
  pub no_upper : upper ≡ None
  pub no_lower : lower ≡ None

-- a tag has begun exactly if it has a held point and a hinge
abbrev pub IsBegunOrBlank : Bool → ℕ → List Rec → Option Point → Option Point → Option Point → Option Point → Type 0
IsBegunOrBlank step d rs None None upper lower = IsBlank rs upper lower
IsBegunOrBlank step d rs (Some q) (Some a) upper lower = IsTagBegun step d rs q a upper lower
IsBegunOrBlank step d rs held hinge upper lower = ⊥

-- records and a summary that keep the rules of a tag of this tuning and this kind, and each of whose points has the
-- property P
pub record IsRuled (P : Point → Type 0) (u : Tuning) (step : Bool) (rs : List Rec) (s : Summary) : Type 0 where
  pub counted : s.records ≡ length rs
  pub at_most_two : length rs ≤ 2 * s.taken
  pub whole : IsBegunOrBlank step u.comp_dev rs s.held s.hinge s.upper s.lower
  pub waits : PendingFits u s.held s.pending
  pub records_are : Each (λ r. P r.point) rs
  pub held_is : IfThere P s.held
  pub pending_is : IfThere P s.pending
  pub hinge_is : IfThere P s.hinge
  pub upper_is : IfThere P s.upper
  pub lower_is : IfThere P s.lower

-- records and a summary that can be those of a tag of this tuning and this kind. They keep the rules, their points are
-- in range, and there are not too many records or events. If the summary has a tuning, it is u
pub record ArePartsOk (u : Tuning) (step : Bool) (rs : List Rec) (s : Summary) : Type 0 where
  pub ruled : IsRuled InRange u step rs s
  pub few : length rs ≤ most_records
  pub countable : s.taken < 10 ^ 18
  pub same_tuning : IfThere (λ t. t ≡ u) s.tuning

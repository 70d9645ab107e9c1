-- What a list of records reads as at each time, and on which spans the promise binds its line or stair to the values.
use Rattle.std.specs.Prelude.{if◌then◌else◌, ◌≡◌, ℕ, ◌<◌, ◌≤◌, ℤ, Bool, true, false, List, [], ◌∷◌, Option, None, Some, nat_eq}
use Rattle.std.specs.Option.{option_or}
use Rattle.trend_num.specs.{Point, Rec, Kind}
use Rattle.trend_num.specs.declared.archive.Kind.TheVariants.{Kept, Late}
use Rattle.trend_model.specs.Lists.{IsAmong}
use Rattle.trend_model.specs.History.{Event, Origin}
use Rattle.trend_model.specs.Walk.{records, held}

-- the value of p, if the time of p is t
abbrev pub value_at : Point → ℕ → Option ℤ
value_at p t = if nat_eq p.t t then Some p.v else None

-- whether a record of this kind is late
abbrev pub is_late_record : Kind → Bool
is_late_record Late = true
is_late_record Kept = false

-- the value of the last Late record at t
abbrev pub late_at : List Rec → ℕ → Option ℤ
late_at [] t = None
late_at (r ∷ rs) t = option_or (late_at rs t) (if is_late_record r.kind then value_at r.point t else None)

-- the value of the last Kept record at t
abbrev pub kept_at : List Rec → ℕ → Option ℤ
kept_at [] t = None
kept_at (r ∷ rs) t = option_or (kept_at rs t) (if is_late_record r.kind then None else value_at r.point t)

-- the content at t: the value of the last Late record there, or else of the last Kept one
abbrev pub content_at : List Rec → ℕ → Option ℤ
content_at rs t = option_or (late_at rs t) (kept_at rs t)

-- the value of a point at t, if there is a point and t is its time
abbrev pub value_at_point : Option Point → ℕ → Option ℤ
value_at_point None t = None
value_at_point (Some q) t = value_at q t

-- the closed content at t: the content, or the held point if the content has nothing at its time
abbrev pub closed_at : List Rec → Option Point → ℕ → Option ℤ
closed_at rs q t = option_or (content_at rs t) (value_at_point q t)

-- the closed content of a history
abbrev pub closed : Origin → List Event → ℕ → Option ℤ
closed o h t = closed_at (records o h) (held o h) t

-- l and r are neighbours in the closed content of these records and this held point. There is no Late record at either
-- time, and no value between them was passed over
pub record IsCleanSpan (rs : List Rec) (q : Option Point) (passed : List Point) (l r : Point) : Type 0 where
  pub left : closed_at rs q l.t ≡ Some l.v
  pub right : closed_at rs q r.t ≡ Some r.v
  pub rises : l.t < r.t
  pub neighbours : (t : ℕ) → l.t < t → t < r.t → closed_at rs q t ≡ None
  pub left_in_order : late_at rs l.t ≡ None
  pub right_in_order : late_at rs r.t ≡ None
  pub none_passed : (x : Point) → IsAmong x passed → l.t < x.t → r.t ≤ x.t

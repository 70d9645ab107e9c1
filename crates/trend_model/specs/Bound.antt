-- How near the archive's line, or a step tag's stair, is to the values.
use Rattle.std.specs.Prelude.{◌≡◌, ℕ, ◌+◌, ◌*◌, ◌<◌, ◌≤◌, ◌-ℤ◌, ℤ, Bool, true, false, List, Option, Some, unsigned_abs}
use Rattle.trend_num.specs.{Point, Rec, Tuning, Within}
use Rattle.trend_model.specs.Lists.{IsAmong}
use Rattle.trend_model.specs.History.{Event, Origin, Sent, InOrder, sent, in_force, tuning_of_value, IsInOrder}
use Rattle.trend_model.specs.Walk.{records, held, passed}
use Rattle.trend_model.specs.Content.{late_at, IsCleanSpan}
use Rattle.trend_model.specs.Contents.{closed_points}
use Rattle.trend_model.specs.Reads.{read_at}
use Rattle.trend_num.specs.declared.reading.Reading.TheVariants.{Exact}

-- x is within d of the line from l to r, or of the stair that keeps the value of l until r comes
abbrev pub IsNear : Bool → Point → Point → Point → ℕ → Type 0
IsNear false l r x d = Within l r x d
IsNear true l r x d = x.t < r.t → unsigned_abs (x.v -ℤ l.v) ≤ d

-- how far a raw value may be from the line or the stair
abbrev pub raw_deviation : Bool → Tuning → ℕ
raw_deviation false u = u.comp_dev + 2 * u.exc_dev
raw_deviation true u = u.comp_dev + u.exc_dev

-- these records, closed by this held point, keep the promise to a history. ss is what was sent of it, and gone is what
-- was passed over. The tuning of a span is the one that was in force when its right end came
pub record IsBoundedBy (rs : List Rec) (q : Option Point) (gone : List Point) (ss : List Sent) (o : Origin) (h : List Event) : Type 0 where
  -- on each clean span the line or the stair is within CompDev of each value sent in order
  pub sent_values : (l r x : Point) → IsCleanSpan rs q gone l r → IsAmong (InOrder x) ss → l.t ≤ x.t → x.t ≤ r.t
      → IsNear o.step l r x (tuning_of_value o h r.t).comp_dev
  -- and the line is within CompDev plus twice ExcDev of each raw value in order; a stair is within CompDev plus ExcDev
  pub raw_values : (l r y : Point) → IsCleanSpan rs q gone l r → IsInOrder y h → l.t ≤ y.t → y.t ≤ r.t
      → IsNear o.step l r y (raw_deviation o.step (tuning_of_value o h r.t))
  -- each value in order after the held point is within ExcDev of it
  pub newest_values : (s y : Point) → q ≡ Some s → IsInOrder y h → s.t < y.t → unsigned_abs (y.v -ℤ s.v) ≤ (in_force o h).exc_dev
  -- at a time with Late records a read is exact, with the value of the last one
  pub late_values : (t : ℕ) (v : ℤ) → late_at rs t ≡ Some v → read_at o.step (closed_points rs q) t ≡ Exact v

-- the archive of a history keeps the promise
abbrev pub IsBounded : Origin → List Event → Type 0
IsBounded o h = IsBoundedBy (records o h) (held o h) (passed o h) (sent o h) o h

-- The model of a tag's core.
use Rattle.std.specs.Prelude.{◌≡◌, ℕ, ◌+◌, ◌≤◌, pos, Bool, true, false, List, [], ◌∷◌, Option, None, Some, length, if◌then◌else◌}
use Rattle.trend_num.specs.{most_records, Point, Tuning, InRange, TuningInRange}
use Rattle.trend_model.specs.{Event, Sent, InOrder, Late, Tuned, is_admitted, is_not_steeper, IsRuled}
use Rattle.trend_model.specs.Walk.{is_short}
use Rattle.trend_model.specs.State.{Archive, State, archive_in, archived, turned}

-- the state of a tag, whether it is a step tag, and how many more records there is memory for
pub record Core : Type 0 where
  pub state : State
  pub step : Bool
  pub spare : ℕ

-- what is true of the state of each core of this kind whose tuning is u
pub record IsCore (u : Tuning) (step : Bool) (s : State) : Type 0 where
  pub tuned : s.summary.tuning ≡ Some u
  pub tuned_ok : TuningInRange u
  pub ruled : IsRuled InRange u step s.records s.summary
  pub few : length s.records ≤ most_records

-- ---- how many slopes are compared

-- for a value p of a tag of lines. If the line to it is not too long, its slope is compared with the upper door's. If
-- it is not steeper, it is also compared with the lower door's. If p joins, there is one comparison more for each door.
abbrev pub line_compared : Tuning → Point → Option Point → Option Point → Option Point → Option Point → ℕ
line_compared t p (Some a) (Some q) (Some u) (Some l) = if is_short t a p
    then (if is_not_steeper a p (pos 0) u (pos t.comp_dev) then 2 else 1) + (if is_admitted a t.comp_dev u l p then 2 else 0) else 0
line_compared t p hinge held upper lower = 0

-- for one thing that is sent; for a step tag none
abbrev pub compared_on : Bool → Archive → Sent → ℕ
compared_on step c (Late x) = 0
compared_on step c (Tuned u) = 0
compared_on false c (InOrder p) = line_compared c.tuning p c.hinge c.held c.upper c.lower
compared_on true c (InOrder p) = 0

-- for all that was sent, which is listed the newest first
abbrev pub compared_values : Bool → Archive → List Sent → ℕ
compared_values step c [] = 0
compared_values step c (s ∷ ss) = compared_values step c ss + compared_on step (archived step c ss) s

-- for an event, under the tuning of the state
abbrev pub compared_under : Bool → State → Event → Option Tuning → ℕ
compared_under step s e None = 0
compared_under step s e (Some u) = compared_values step (archive_in u s) (turned u s.summary.held s.summary.pending e).sends

-- for an event
abbrev pub comparisons : Bool → State → Event → ℕ
comparisons step s e = compared_under step s e s.summary.tuning

-- Lemmas on the walk of the compression.
use Rattle.std.proofs.Common.{◌≡◌, Bool, true, false, cond, ◌&&◌, List, [], ◌∷◌, Option, None, Some, refl, sym, ap, ◌∙◌}
use Rattle.trend_num.specs.{Point}
use Rattle.trend_model.specs.{Event, Origin, Sent, InOrder, Late, Tuned, sent, prior, last_in_order}
use Rattle.trend_model.specs.Walk.{Walk, walk, walk_on, line_on, stair_on, joined, skipped, replaced, keeping, ended, is_short, is_early, is_fit, is_near, last_since_hinge, held}
use Rattle.trend_model.proofs.Sent.{last_in_order_is}

-- the three ways on of a line from a hinge and the last value since it
abbrev pub line_by : Bool → Bool → Walk → Point → Point → Walk
line_by joins early w p q = cond joins (joined w p) (cond early (replaced w p) (joined (keeping w q) p))

-- the three ways on of a stair from a hinge
abbrev pub stair_by : Bool → Bool → Walk → Point → Walk
stair_by joins early w p = cond joins (joined w p) (cond early (skipped w p) (keeping w p))

-- the point that closes the line of a walk
abbrev pub last_in : Walk → Option Point
last_in w = last_since_hinge w.hinge w.since

-- on each of these ways p is held
last_line_by : (joins early : Bool) (w : Walk) (p q : Point) → last_in (line_by joins early w p q) ≡ Some p
last_line_by true early w p q = refl
last_line_by false true w p q = refl
last_line_by false false w p q = refl

-- on each of these too
last_stair_by : (joins early : Bool) (w : Walk) (p : Point) → last_in (stair_by joins early w p) ≡ Some p
last_stair_by true early w p = refl
last_stair_by false true w p = refl
last_stair_by false false w p = refl

-- a value in order is held, of a line
last_line : (w : Walk) (p : Point) (hinge : Option Point) (since : List Point)
    → last_in (line_on w p hinge since) ≡ Some p
last_line w p None since = refl
last_line w p (Some a) [] = refl
last_line w p (Some a) (q ∷ since) =
    last_line_by (is_short w.tuning a p && is_fit w.tuning a (q ∷ since) p)
    (is_short w.tuning a p && is_early w.tuning a q) w p q

-- and of a stair
last_stair : (w : Walk) (p : Point) (hinge : Option Point) → last_in (stair_on w p hinge) ≡ Some p
last_stair w p None = refl
last_stair w p (Some a) =
    last_stair_by (is_short w.tuning a p && is_near w.tuning a p)
    (is_short w.tuning a p && is_early w.tuning a p) w p

-- the end of a span leaves it held
last_ended : (w : Walk) (since : List Point) → w.since ≡ since → last_in (ended w since) ≡ last_in w
last_ended w [] e = refl
last_ended w (q ∷ since) e = ap (last_since_hinge w.hinge) (sym e)

-- the walk holds the last value that was sent in order
last_of_walk : (o : Origin) (ss : List Sent) → last_in (walk o ss) ≡ last_in_order ss
last_of_walk o [] = refl
last_of_walk o (Late x ∷ ss) = last_of_walk o ss
last_of_walk o (Tuned u ∷ ss) = last_ended (walk o ss) (walk o ss).since refl ∙ last_of_walk o ss
last_of_walk o (InOrder p ∷ ss) = by_kind o.step
  where
    by_kind : (step : Bool) → last_in (walk_on step (walk o ss) (InOrder p)) ≡ Some p
    by_kind false = last_line (walk o ss) p (walk o ss).hinge (walk o ss).since
    by_kind true = last_stair (walk o ss) p (walk o ss).hinge

-- the held point is the last value sent in order
pub held_is_prior : (o : Origin) (h : List Event) → held o h ≡ prior o h
held_is_prior o h = last_of_walk o (sent o h) ∙ last_in_order_is o h

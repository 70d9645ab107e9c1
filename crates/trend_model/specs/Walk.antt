-- Compression, as a walk through what was sent. A tag of lines is compressed by swinging doors (after Bristol): each
-- line from the last kept point is tested against all values since. A step tag keeps each new value that is not near
-- the last kept one.
use Rattle.std.specs.Prelude.{if◌then◌else◌, ◌+◌, ◌-ℤ◌, Bool, true, false, ◌&&◌, List, [], ◌∷◌, ◌++◌, Option, None, Some, nat_lt, nat_le, unsigned_abs}
use Rattle.std.specs.List.{list_all}
use Rattle.trend_num.specs.{Point, Rec, Tuning, is_within}
use Rattle.trend_num.specs.declared.archive.Kind.TheVariants as kind
use Rattle.trend_model.specs.History.{Event, Origin, Sent, InOrder, Late, Tuned, sent}

-- a point as a Kept record
abbrev pub kept : Point → Rec
kept p = record { kind = kind.Kept; point = p }

-- a point as a Late record
abbrev pub late : Point → Rec
late p = record { kind = kind.Late; point = p }

-- the state of the walk
pub record Walk : Type 0 where
  -- the records, the oldest first
  pub records : List Rec
  -- the last kept point
  pub hinge : Option Point
  -- the values sent in order since the hinge, without those that another one replaced, the newest first
  pub since : List Point
  -- the values that were passed over, the newest first
  pub passed : List Point
  -- the tuning in force
  pub tuning : Tuning

-- the walk before anything was sent
abbrev pub at_start : Tuning → Walk
at_start u = record { records = []; hinge = None; since = []; passed = []; tuning = u }

-- p joins the values since the hinge
abbrev pub joined : Walk → Point → Walk
joined w p = record w { since = p ∷ w.since }

-- p joins the values since the hinge, and is passed over
abbrev pub skipped : Walk → Point → Walk
skipped w p = record w { since = p ∷ w.since; passed = p ∷ w.passed }

-- the values since the hinge are passed over, and p takes their place
abbrev pub replaced : Walk → Point → Walk
replaced w p = record w { since = p ∷ []; passed = w.since ++ w.passed }

-- q is kept and becomes the hinge
abbrev pub keeping : Walk → Point → Walk
keeping w q = record w { records = w.records ++ (kept q ∷ []); hinge = Some q; since = [] }

-- p is at most CompMax after the hinge a
abbrev pub is_short : Tuning → Point → Point → Bool
is_short u a p = nat_le p.t (a.t + u.comp_max)

-- q is less than CompMin after the hinge a, which is too early to be kept
abbrev pub is_early : Tuning → Point → Point → Bool
is_early u a q = nat_lt q.t (a.t + u.comp_min)

-- the line from the hinge to p is within CompDev of each of these values
abbrev pub is_fit : Tuning → Point → List Point → Point → Bool
is_fit u a values p = list_all (λ x. is_within a p x u.comp_dev) values

-- the value of p is within CompDev of the hinge's value
abbrev pub is_near : Tuning → Point → Point → Bool
is_near u a p = nat_le (unsigned_abs (p.v -ℤ a.v)) u.comp_dev

-- the walk of a tag of lines after one more value in order
abbrev pub line_on : Walk → Point → Option Point → List Point → Walk
line_on w p None since = keeping w p
line_on w p (Some a) [] = joined w p
line_on w p (Some a) (q ∷ since) =
    if is_short w.tuning a p && is_fit w.tuning a (q ∷ since) p then joined w p
    else if is_short w.tuning a p && is_early w.tuning a q then replaced w p
    else joined (keeping w q) p

-- the walk of a step tag after one more value in order
abbrev pub stair_on : Walk → Point → Option Point → Walk
stair_on w p None = keeping w p
stair_on w p (Some a) =
    if is_short w.tuning a p && is_near w.tuning a p then joined w p
    else if is_short w.tuning a p && is_early w.tuning a p then skipped w p
    else keeping w p

-- the span since the hinge ends: its last value is kept
abbrev pub ended : Walk → List Point → Walk
ended w [] = w
ended w (q ∷ since) = keeping w q

-- the walk after one more thing was sent
abbrev pub walk_on : Bool → Walk → Sent → Walk
walk_on step w (Late x) = record w { records = w.records ++ (late x ∷ []) }
walk_on step w (Tuned u) = record (ended w w.since) { tuning = u }
walk_on false w (InOrder p) = line_on w p w.hinge w.since
walk_on true w (InOrder p) = stair_on w p w.hinge

-- the walk through what was sent, which is listed the newest first
abbrev pub walk : Origin → List Sent → Walk
walk o [] = at_start o.tuning
walk o (s ∷ ss) = walk_on o.step (walk o ss) s

-- the walk after a history
abbrev pub walked : Origin → List Event → Walk
walked o h = walk o (sent o h)

-- the records of a history, the oldest first
abbrev pub records : Origin → List Event → List Rec
records o h = (walked o h).records

-- the last kept point of a history
abbrev pub hinge : Origin → List Event → Option Point
hinge o h = (walked o h).hinge

-- the values that a history sent in order since the hinge, without those that others replaced, the newest first
abbrev pub since : Origin → List Event → List Point
since o h = (walked o h).since

-- the values that a history passed over
abbrev pub passed : Origin → List Event → List Point
passed o h = (walked o h).passed

-- the last of the values since the hinge, or the hinge if there is none
abbrev pub last_since_hinge : Option Point → List Point → Option Point
last_since_hinge hinge [] = hinge
last_since_hinge hinge (q ∷ since) = Some q

-- the held point, which closes a history's line; for the exception test it is the last value sent in order
abbrev pub held : Origin → List Event → Option Point
held o h = last_since_hinge (hinge o h) (since o h)

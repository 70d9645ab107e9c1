-- The state that a tag keeps, and how one more event changes it. The exception test has two places, for its last and
-- its pending value; compression has two doors. A law says that this follows the definitions over histories.
use Rattle.std.specs.Prelude.{if◌then◌else◌, ◌≡◌, ◌⊎◌, ℕ, ◌+◌, ◌&&◌, Bool, true, false, List, [], ◌∷◌, ◌++◌, length, Option, None, Some, nat_le}
use Rattle.std.specs.Option.{option_or}
use Rattle.trend_num.specs.{Point, Rec, Summary, Sending, Tuning}
use Rattle.trend_num.specs.declared.sending.Sending.TheVariants as sending
use Rattle.trend_model.specs.History.{Event, Raw, Tune, Origin, Sent, InOrder, Late, Tuned, in_force, is_far, pending}
use Rattle.trend_model.specs.Walk.{kept, late, is_short, is_early, is_near, records, hinge, since, held}
use Rattle.trend_model.specs.Doors.{AreDoors, is_admitted, upper_after, lower_after}

-- ---- the exception test

-- the two places of an exception test after one more value, and what it sends: `first` is the pending value, if it is
-- now sent in order, and `second` the value itself, if it is sent
pub record Offer : Type 0 where
  pub last : Option Point
  pub pending : Option Point
  pub first : Option Point
  pub second : Option Sending

-- p is in order. If it is far from the last value, the pending value is sent and then p. Otherwise p becomes the
-- pending value
abbrev pub offered_in_order : Tuning → Point → Option Point → Point → Offer
offered_in_order u s waiting p =
    if is_far u s p then record { last = Some p; pending = None; first = waiting; second = Some (sending.InOrder p) }
    else record { last = Some s; pending = Some p; first = None; second = None }

-- what an exception test does with p
abbrev pub offered : Tuning → Option Point → Option Point → Point → Offer
offered u None waiting p = record { last = Some p; pending = waiting; first = None; second = Some (sending.InOrder p) }
offered u (Some s) None p =
    if nat_le p.t s.t then record { last = Some s; pending = None; first = None; second = Some (sending.Late p) }
    else offered_in_order u s None p
offered u (Some s) (Some q) p =
    if nat_le p.t q.t then record { last = Some q; pending = None; first = Some q; second = Some (sending.Late p) }
    else offered_in_order u s (Some q) p

-- a value as it is sent
abbrev pub sent_as : Sending → Sent
sent_as (sending.InOrder p) = InOrder p
sent_as (sending.Late p) = Late p

-- a pending value that is sent in order
abbrev pub pushed_out : Option Point → List Sent
pushed_out None = []
pushed_out (Some q) = InOrder q ∷ []

-- what an exception test sends, the newest first
abbrev pub gained : Option Point → Option Sending → List Sent
gained first None = pushed_out first
gained first (Some s) = sent_as s ∷ pushed_out first

-- the two places after one more event, and what is then sent, the newest first
pub record Turn : Type 0 where
  pub last : Option Point
  pub pending : Option Point
  pub sends : List Sent

-- the turn of an offer
abbrev pub turn_of : Offer → Turn
turn_of o = record { last = o.last; pending = o.pending; sends = gained o.first o.second }

-- a retuning sends the pending value and then the new tuning
abbrev pub turned : Tuning → Option Point → Option Point → Event → Turn
turned u last waiting (Raw p) = turn_of (offered u last waiting p)
turned u last waiting (Tune w) = record { last = option_or waiting last; pending = None; sends = Tuned w ∷ pushed_out waiting }

-- ---- the compression

-- what compression keeps: the tuning in force, the records, the hinge, the last value sent in order, and the two doors.
-- The doors are there if there are values since the hinge
pub record Archive : Type 0 where
  pub tuning : Tuning
  pub records : List Rec
  pub hinge : Option Point
  pub held : Option Point
  pub upper : Option Point
  pub lower : Option Point

-- q is kept: it is then the hinge and the held point
abbrev pub keeps : Archive → Point → Archive
keeps c q = record c { records = c.records ++ (kept q ∷ []); hinge = Some q; held = Some q; upper = None; lower = None }

-- p is held, and these are the doors
abbrev pub holding : Archive → Point → Point → Point → Archive
holding c p u l = record c { held = Some p; upper = Some u; lower = Some l }

-- whether the line from the hinge to p is not too long and the doors admit it
abbrev pub joins : Tuning → Point → Point → Point → Point → Bool
joins t a u l p = is_short t a p && is_admitted a t.comp_dev u l p

-- the archive of a tag of lines after one more value in order, from its hinge, its held point and its doors
abbrev pub line_after : Archive → Point → Option Point → Option Point → Option Point → Option Point → Archive
line_after c p None held upper lower = keeps c p
line_after c p (Some a) (Some q) (Some u) (Some l) =
    if joins c.tuning a u l p then holding c p (upper_after a c.tuning.comp_dev u p) (lower_after a c.tuning.comp_dev l p)
    else if is_short c.tuning a p && is_early c.tuning a q then holding c p p p
    else holding (keeps c q) p p p
line_after c p (Some a) held upper lower = holding c p p p

-- the archive of a step tag after one more value in order, from its hinge
abbrev pub stair_after : Archive → Point → Option Point → Archive
stair_after c p None = keeps c p
stair_after c p (Some a) =
    if is_short c.tuning a p && is_near c.tuning a p then holding c p p p
    else if is_short c.tuning a p && is_early c.tuning a p then holding c p p p
    else keeps c p

-- the span since the hinge ends: if there are doors, the held point is kept
abbrev pub ends_at : Archive → Option Point → Option Point → Option Point → Archive
ends_at c (Some q) (Some u) (Some l) = keeps c q
ends_at c held upper lower = c

-- the archive after one more thing was sent
abbrev pub archive_on : Bool → Archive → Sent → Archive
archive_on step c (Late x) = record c { records = c.records ++ (late x ∷ []) }
archive_on step c (Tuned u) = record (ends_at c c.held c.upper c.lower) { tuning = u }
archive_on false c (InOrder p) = line_after c p c.hinge c.held c.upper c.lower
archive_on true c (InOrder p) = stair_after c p c.hinge

-- the archive after all that was sent, which is listed the newest first
abbrev pub archived : Bool → Archive → List Sent → Archive
archived step c [] = c
archived step c (s ∷ ss) = archive_on step (archived step c ss) s

-- ---- the state

-- all that a tag keeps: the records, the oldest first, and the summary, with the tuning in force
pub record State : Type 0 where
  pub records : List Rec
  pub summary : Summary

-- what compression keeps of a state with this tuning
abbrev pub archive_in : Tuning → State → Archive
archive_in u s = record {
  tuning = u;
  records = s.records;
  hinge = s.summary.hinge;
  held = s.summary.held;
  upper = s.summary.upper;
  lower = s.summary.lower;
}

-- the state of that archive, after `taken` events, with these two places of the exception test
abbrev pub state_with : Archive → ℕ → Option Point → Option Point → State
state_with c taken last waiting = record {
  records = c.records;
  summary = record {
    taken = taken;
    records = length c.records;
    held = last;
    pending = waiting;
    hinge = c.hinge;
    upper = c.upper;
    lower = c.lower;
    tuning = Some c.tuning;
  };
}

-- the state of a tag before its first event
abbrev pub nothing_taken : Tuning → State
nothing_taken u =
    state_with (record { tuning = u; records = []; hinge = None; held = None; upper = None; lower = None }) 0 None None

-- the state after one more event, if this is its tuning; a state without a tuning stays as it is
abbrev pub after_under : Bool → State → Event → Option Tuning → State
after_under step s e None = s
after_under step s e (Some u) =
    let t = turned u s.summary.held s.summary.pending e in
    state_with (archived step (archive_in u s) t.sends) (s.summary.taken + 1) t.last t.pending

-- the state after one more event
abbrev pub after : Bool → State → Event → State
after step s e = after_under step s e s.summary.tuning

-- the state after these events, the oldest first
abbrev pub replay : Bool → State → List Event → State
replay step s [] = s
replay step s (e ∷ events) = replay step (after step s e) events

-- a history followed by these events, the oldest first
abbrev pub followed : List Event → List Event → List Event
followed h [] = h
followed h (e ∷ events) = followed (e ∷ h) events

-- ---- a state that stands for a history

-- doors of these values, of which q is the newest; both doors of a step tag are q
abbrev pub AreDoorsFor : Bool → ℕ → Point → Point → List Point → Point → Point → Type 0
AreDoorsFor false d a q since u l = AreDoors a d (q ∷ since) u l
AreDoorsFor true d a q since u l = (u ≡ q) × (l ≡ q)

-- the two doors for a hinge and the values since it; there are none if there is no such value
abbrev pub DoorsStand : Bool → ℕ → Option Point → List Point → Option Point → Option Point → Type 0
DoorsStand step d None since upper lower = (upper ≡ None) × (lower ≡ None)
DoorsStand step d (Some a) [] upper lower = (upper ≡ None) × (lower ≡ None)
DoorsStand step d (Some a) (q ∷ since) upper lower =
    (u : Point) × (l : Point) × (upper ≡ Some u) × (lower ≡ Some l) × AreDoorsFor step d a q since u l

-- a state that stands for a history of a tag of this origin. If slopes are equal, any of those values may be a door
pub record Stands (o : Origin) (h : List Event) (s : State) : Type 0 where
  pub tuned : s.summary.tuning ≡ Some (in_force o h)
  pub taken : s.summary.taken ≡ length h
  pub same_records : s.records ≡ records o h
  pub counted : s.summary.records ≡ length (records o h)
  pub same_held : s.summary.held ≡ held o h
  pub same_pending : s.summary.pending ≡ pending o h
  pub same_hinge : s.summary.hinge ≡ hinge o h
  pub doors : DoorsStand o.step (in_force o h).comp_dev (hinge o h) (since o h) s.summary.upper s.summary.lower

-- ---- a state as a device may keep it

-- no event of the history is a retuning
abbrev pub IsNeverRetuned : List Event → Type 0
IsNeverRetuned [] = Unit {0}
IsNeverRetuned (Raw p ∷ h) = IsNeverRetuned h
IsNeverRetuned (Tune u ∷ h) = ⊥

-- a state with the tuning with which a tag of this origin was made
abbrev pub with_made : Origin → State → State
with_made o s = record s { summary = record s.summary { tuning = Some o.tuning } }

-- a state of the older form, which has no tuning. It stands for a history in which nothing was retuned
pub record StandsUntuned (o : Origin) (h : List Event) (s : State) : Type 0 where
  pub untuned : s.summary.tuning ≡ None
  pub never : IsNeverRetuned h
  pub stands : Stands o h (with_made o s)

-- records and a summary stand for a history. They have the tuning in force, or none if nothing was retuned
abbrev pub StandsAsStored : Origin → List Event → State → Type 0
StandsAsStored o h s = Stands o h s ⊎ StandsUntuned o h s

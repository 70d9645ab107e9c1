-- What an exception test sends of a history. A history is the list of what happened to a tag, the newest first. What
-- was sent is listed in the same way. Each definition applies the rules at a place of the history, and keeps no state.
use Rattle.std.specs.Prelude.{if◌then◌else◌, ◌≡◌, ◌+◌, ◌-ℤ◌, ℕ, Bool, true, false, ◌||◌, ◌&&◌, not, ◌⊎◌, List, [], ◌∷◌, Option, None, Some, nat_eq, nat_lt, nat_le, unsigned_abs}
use Rattle.trend_num.specs.{Point, Tuning}

-- what happens to a tag: a raw value comes, or the tag is retuned
pub data Event : Type 0 where
  Raw : Point → Event
  Tune : Tuning → Event

-- the tuning and the kind with which a tag was made. A step tag keeps its value from point to point; any other follows
-- straight lines
pub record Origin : Type 0 where
  pub tuning : Tuning
  pub step : Bool

-- what is sent: a value in order, a late value, or a new tuning
pub data Sent : Type 0 where
  InOrder : Point → Sent
  Late : Point → Sent
  Tuned : Tuning → Sent

-- the tuning in force after these events
abbrev pub in_force : Origin → List Event → Tuning
in_force o [] = o.tuning
in_force o (Tune u ∷ h) = u
in_force o (Raw p ∷ h) = in_force o h

-- p, which comes after the events of h, is late: a value of h has its time or a later one
abbrev pub is_late : Point → List Event → Bool
is_late p [] = false
is_late p (Tune u ∷ h) = is_late p h
is_late p (Raw q ∷ h) = nat_le p.t q.t || is_late p h

-- y is far from s: it differs by more than ExcDev, or is at least ExcMax later
abbrev pub is_far : Tuning → Point → Point → Bool
is_far u s y = nat_lt u.exc_dev (unsigned_abs (y.v -ℤ s.v)) || nat_le (s.t + u.exc_max) y.t

-- y is far from the value that was sent before it; the first value of all is always far
abbrev pub is_far_from : Tuning → Option Point → Point → Bool
is_far_from u None y = true
is_far_from u (Some s) y = is_far u s y

-- the last value in order
abbrev pub newest : List Event → Option Point
newest [] = None
newest (Tune u ∷ h) = newest h
newest (Raw p ∷ h) = if is_late p h then newest h else Some p

-- the last value sent in order, after the events of h. A late value and a retuning push out the newest value
abbrev pub prior : Origin → List Event → Option Point
prior o [] = None
prior o (Tune u ∷ h) = newest h
prior o (Raw p ∷ h) =
    if is_late p h then newest h
    else if is_far_from (in_force o h) (prior o h) p then Some p
    else prior o h

-- the newest value, if it is in order and was not sent
abbrev pub pending : Origin → List Event → Option Point
pending o [] = None
pending o (Tune u ∷ h) = None
pending o (Raw p ∷ h) =
    if is_late p h || is_far_from (in_force o h) (prior o h) p then None
    else Some p

-- whether the next event after those of h pushes out the newest value. A retuning does, and a late value, and a value
-- that is far from the one sent before it
abbrev pub is_pushed_out : Origin → List Event → Option Event → Bool
is_pushed_out o h None = false
is_pushed_out o h (Some (Tune u)) = true
is_pushed_out o h (Some (Raw y)) = is_late y h || is_far_from (in_force o h) (prior o h) y

-- whether p is sent; p is in order, and comes after the events of h and before the next one
abbrev pub is_sent : Origin → Point → List Event → Option Event → Bool
is_sent o p h next = is_far_from (in_force o h) (prior o h) p || is_pushed_out o (Raw p ∷ h) next

-- what is sent of the events of h if `next` follows them, the newest first
abbrev pub sent_before : Origin → List Event → Option Event → List Sent
sent_before o [] next = []
sent_before o (Tune u ∷ h) next = Tuned u ∷ sent_before o h (Some (Tune u))
sent_before o (Raw p ∷ h) next =
    if is_late p h then Late p ∷ sent_before o h (Some (Raw p))
    else if is_sent o p h next then InOrder p ∷ sent_before o h (Some (Raw p))
    else sent_before o h (Some (Raw p))

-- what is sent of the events of h, the newest first
abbrev pub sent : Origin → List Event → List Sent
sent o h = sent_before o h None

-- y is a value of the history, and in order there
abbrev pub IsInOrder : Point → List Event → Type 0
IsInOrder y [] = ⊥
IsInOrder y (Tune u ∷ h) = IsInOrder y h
IsInOrder y (Raw p ∷ h) = ((y ≡ p) × (is_late p h ≡ false)) ⊎ IsInOrder y h

-- the tuning that was in force when the value in order with the time t came
abbrev pub tuning_of_value : Origin → List Event → ℕ → Tuning
tuning_of_value o [] t = o.tuning
tuning_of_value o (Tune u ∷ h) t = tuning_of_value o h t
tuning_of_value o (Raw p ∷ h) t =
    if not (is_late p h) && nat_eq p.t t then in_force o h
    else tuning_of_value o h t

-- the last value in order of what was sent
abbrev pub last_in_order : List Sent → Option Point
last_in_order [] = None
last_in_order (Tuned u ∷ ss) = last_in_order ss
last_in_order (Late x ∷ ss) = last_in_order ss
last_in_order (InOrder x ∷ ss) = Some x

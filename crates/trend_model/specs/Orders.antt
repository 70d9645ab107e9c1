-- Words of the laws about a history and what it sent: order in time, tunings, and a fact of each value.
use Rattle.std.specs.Prelude.{◌≡◌, ◌<◌, false, List, [], ◌∷◌}
use Rattle.trend_num.specs.{Point, Tuning}
use Rattle.trend_model.specs.Lists.{IsAmong}
use Rattle.trend_model.specs.History.{Event, Raw, Tune, Origin, Sent, InOrder, Late, Tuned, is_late}

-- each value sent in order is after those sent in order before it
abbrev pub RisesInTime : List Sent → Type 0
RisesInTime [] = Unit {0}
RisesInTime (Late x ∷ ss) = RisesInTime ss
RisesInTime (Tuned u ∷ ss) = RisesInTime ss
RisesInTime (InOrder p ∷ ss) = ((x : Point) → IsAmong (InOrder x) ss → x.t < p.t) × RisesInTime ss

-- each value of a history is in order
abbrev pub AllInOrder : List Event → Type 0
AllInOrder [] = Unit {0}
AllInOrder (Tune u ∷ h) = AllInOrder h
AllInOrder (Raw p ∷ h) = (is_late p h ≡ false) × AllInOrder h

-- how an event is sent, if each value is sent in order
abbrev pub sent_plainly : Event → Sent
sent_plainly (Raw p) = InOrder p
sent_plainly (Tune u) = Tuned u

-- each tuning that was in force, including the one with which the tag was made
abbrev pub tunings : Origin → List Event → List Tuning
tunings o [] = o.tuning ∷ []
tunings o (Tune u ∷ h) = u ∷ tunings o h
tunings o (Raw p ∷ h) = tunings o h

-- a fact of each value of a history
abbrev pub AllPoints : (Point → Type 0) → List Event → Type 0
AllPoints P [] = Unit {0}
AllPoints P (Tune u ∷ h) = AllPoints P h
AllPoints P (Raw p ∷ h) = P p × AllPoints P h

-- the tuning after one more event
abbrev pub tuned_by : Tuning → Event → Tuning
tuned_by u (Tune w) = w
tuned_by u (Raw p) = u

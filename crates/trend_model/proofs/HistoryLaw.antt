-- What stands for a history keeps the rules of records and summaries.
use Rattle.std.proofs.Common.{◌≡◌, ℕ, ◌^◌, ◌<◌, ◌≤◌, inl, inr, Bool, true, false, List, [], ◌∷◌, ◌++◌, length, Option, None, Some, refl, sym, ap, ◌∙◌, subst, arith, append_assoc, append-nil}
use Rattle.trend_num.specs.{most_records, Point, Rec, Tuning, InRange}
use Rattle.trend_model.specs.{AreAfter, IsAmong, Each, IfThere, Event, Raw, Tune, Origin, Sent, InOrder, in_force, pending, sent, kept_points, PointsRise, last_point, AreFitDoors, DoorsFit, PendingFits, IsBegunOrBlank, IsRuled, ArePartsOk}
use Rattle.trend_model.specs.{AllPoints, tuned_by}
use Rattle.trend_model.specs.Walk.{walked, last_since_hinge, records, hinge, since, held}
use Rattle.trend_model.specs.State.{State, nothing_taken, after, AreDoorsFor, DoorsStand, Stands, StandsAsStored, with_made}
use Rattle.trend_model.proofs.Doors.{under_of_within, over_of_within}
use Rattle.trend_model.proofs.Sent.{flushed, tune_sends, comes_late, goes, waits, happens}
use Rattle.trend_model.proofs.Order.{not_late, same_in_order, sent_in_flushed, sent_rises}
use Rattle.trend_model.proofs.SentTunings.{force_sent, force_is, sent_of_made}
use Rattle.trend_model.proofs.Since.{IsFitted}
use Rattle.trend_model.proofs.WalkLaw.{IsWalked, walk_holds}
use Rattle.trend_model.proofs.RulesLaw.{after_ruled, after_more}
use Rattle.trend_model.proofs.StateLaw.{stands_after, nothing_stands}

-- ---- a state that stands for a history

-- the state that a history leads to
abbrev pub state_of : Origin → List Event → State
state_of o [] = nothing_taken o.tuning
state_of o (e ∷ h) = after o.step (state_of o h) e

-- it stands for the history
pub state_stands : (o : Origin) (h : List Event) → Stands o h (state_of o h)
state_stands o [] = nothing_stands o
state_stands o (e ∷ h) = stands_after o h e (state_of o h) (state_stands o h)

-- one fact of all points is a fact of the newest, and of those before
all_parts : (P : Point → Type 0) (e : Event) (h : List Event) → AllPoints P (e ∷ h)
    → AllPoints P (e ∷ []) × AllPoints P h
all_parts P (Raw p) h each = ((each.0, tt), each.1)
all_parts P (Tune u) h each = (tt, each)

-- the tuning in force after one more event
force_on : (o : Origin) (e : Event) (h : List Event) → tuned_by (in_force o h) e ≡ in_force o (e ∷ h)
force_on o (Raw p) h = refl
force_on o (Tune u) h = refl

-- no records and a summary of nothing keep the rules
pub nothing_ruled : (P : Point → Type 0) (u : Tuning) (step : Bool) (tuning : Option Tuning)
    → IsRuled P u step [] (record { taken = 0; records = 0; held = None; pending = None; hinge = None; upper = None; lower = None; tuning = tuning })
nothing_ruled P u step tuning = grind (arith, waits)

-- it keeps the rules, for any property of the points of the history
pub state_ruled : (P : Point → Type 0) (o : Origin) (h : List Event) → AllPoints P h
    → IsRuled P (in_force o h) o.step (state_of o h).records (state_of o h).summary
state_ruled P o [] each = nothing_ruled P o.tuning o.step (Some o.tuning)
state_ruled P o (e ∷ h) each =
    let s = state_of o h in
    let parts = all_parts P e h each in
    subst (λ u. IsRuled P u o.step (after o.step s e).records (after o.step s e).summary) (force_on o e h)
    (after_ruled P (in_force o h) o.step s e (state_ruled P o h parts.1) (state_stands o h).tuned parts.0)

-- ---- plain laws

-- every point has a property of no content
pub all_points : (h : List Event) → AllPoints (λ p. Unit {0}) h
all_points [] = tt
all_points (Raw p ∷ h) = (tt, all_points h)
all_points (Tune u ∷ h) = all_points h

-- records that keep the rules rise, to the hinge
kept_of_whole : (step : Bool) (d : ℕ) (rs : List Rec) (q a u l : Option Point)
    → IsBegunOrBlank step d rs q a u l
    → PointsRise (kept_points rs) × (a ≡ last_point (kept_points rs))
kept_of_whole step d rs None None u l blank =
    subst (λ xs. PointsRise (kept_points xs) × (None ≡ last_point (kept_points xs))) (sym blank.none_recorded)
    (tt, refl)
kept_of_whole step d rs None (Some a) u l none = absurd none
kept_of_whole step d rs (Some q) None u l none = absurd none
kept_of_whole step d rs (Some q) (Some a) u l begun = (begun.kept_rise, sym begun.hinge_last)

-- so do those of a history
history_kept : (o : Origin) (h : List Event)
    → PointsRise (kept_points (records o h)) × (hinge o h ≡ last_point (kept_points (records o h)))
history_kept o h =
    let s = state_of o h in
    let stands = state_stands o h in
    let x = s.summary in
    let kept = kept_of_whole o.step (in_force o h).comp_dev s.records x.held x.hinge x.upper x.lower
    (state_ruled (λ p. Unit {0}) o h (all_points h)).whole in
    subst (λ rs. PointsRise (kept_points rs) × (hinge o h ≡ last_point (kept_points rs))) stands.same_records
    (kept.0, sym stands.same_hinge ∙ kept.1)

-- kept points rise in time
pub kept_rise : (o : Origin) (h : List Event) → PointsRise (kept_points (records o h))
kept_rise o h = (history_kept o h).0

-- the hinge is the last of them
pub hinge_is_last : (o : Origin) (h : List Event) → hinge o h ≡ last_point (kept_points (records o h))
hinge_is_last o h = (history_kept o h).1

-- the records of a history begin with those of the history before its last event
pub records_grow : (o : Origin) (e : Event) (h : List Event)
    → (more : List Rec) × (records o (e ∷ h) ≡ records o h ++ more)
records_grow o e h =
    let grown = after_more o.step (state_of o h) e in (
      grown.0,
      sym (state_stands o (e ∷ h)).same_records ∙ grown.1
          ∙ ap (λ rs. rs ++ grown.0) (state_stands o h).same_records,
    )

-- and with those of each prefix
pub prefix_records : (o : Origin) (later h : List Event)
    → (more : List Rec) × (records o (later ++ h) ≡ records o h ++ more)
prefix_records o [] h = ([], sym (append-nil (records o h)))
prefix_records o (e ∷ later) h =
    let some = prefix_records o later h in
    let next = records_grow o e (later ++ h) in
    (some.0 ++ next.0, next.1 ∙ ap (λ rs. rs ++ next.0) some.1 ∙ append_assoc (records o h) some.0 next.0)

-- ---- the doors of a state that stands for a history

-- the doors of values are among them
door_among : (step : Bool) (d : ℕ) (a q u l : Point) (since : List Point) → AreDoorsFor step d a q since u l
    → IsAmong u (q ∷ since) × IsAmong l (q ∷ since)
door_among false d a q u l since doors = (doors.upper_there, doors.lower_there)
door_among true d a q u l since doors = (inl doors.0, inl doors.1)

-- so they have what all those values have
doors_are : (P : Point → Type 0) (step : Bool) (d : ℕ) (a : Option Point) (since : List Point)
    (u l : Option Point)
    → DoorsStand step d a since u l → ((x : Point) → IsAmong x since → P x) → IfThere P u × IfThere P l
doors_are P step d None since u l stand each =
    (subst (IfThere P) (sym stand.0) tt, subst (IfThere P) (sym stand.1) tt)
doors_are P step d (Some a) [] u l stand each =
    (subst (IfThere P) (sym stand.0) tt, subst (IfThere P) (sym stand.1) tt)
doors_are P step d (Some a) (q ∷ since) u l stand each =
    let among = door_among step d a q stand.0 stand.1 since stand.4 in (
      subst (IfThere P) (sym stand.2) (each stand.0 among.0),
      subst (IfThere P) (sym stand.3) (each stand.1 among.1),
    )

-- doors of values that fit and end at q fit the held point q
fit_of : (step : Bool) (d : ℕ) (a q u l : Point) (since passed : List Point) → AreAfter a (q ∷ since)
    → ((x : Point) → IsAmong x (q ∷ since) → x.t ≤ q.t)
    → ((x : Point) → IsAmong x (q ∷ since) → IsFitted step a q x d passed)
    → AreDoorsFor step d a q since u l → AreFitDoors step d a q u l
fit_of true d a q u l since passed after before fit doors = doors
fit_of false d a q u l since passed after before fit doors = record {
  upper_after = after u doors.upper_there;
  upper_before = before u doors.upper_there;
  lower_after = after l doors.lower_there;
  lower_before = before l doors.lower_there;
  under_upper = under_of_within a q u d (fit u doors.upper_there);
  upper_not_above = doors.upper_least q (inl refl);
  over_lower = over_of_within a q l d (fit l doors.lower_there);
  lower_not_below = doors.lower_greatest q (inl refl);
}

-- the doors of a walk's hinge and held point fit, or there are none
abbrev AreDoorsOf : Bool → ℕ → Option Point → Option Point → Option Point → Option Point → Type 0
AreDoorsOf step d (Some q) (Some a) u l = DoorsFit step d a q u l
AreDoorsOf step d None (Some a) u l = Unit {0}
AreDoorsOf step d q None u l = (u ≡ None) × (l ≡ None)

-- the doors of values since the hinge fit the walk
doors_of : (o : Origin) (ss : List Sent) (rs : List Rec) (a : Option Point) (since passed : List Point)
    (u l : Option Point)
    → IsWalked o ss rs a since passed → DoorsStand o.step (force_sent o.tuning ss).comp_dev a since u l
    → AreDoorsOf o.step (force_sent o.tuning ss).comp_dev (last_since_hinge a since) a u l
doors_of o ss rs None [] passed u l i stand = stand
doors_of o ss rs None (q ∷ since) passed u l i stand = absurd i
doors_of o ss rs (Some a) [] passed u l i stand =
    subst (λ x. DoorsFit o.step (force_sent o.tuning ss).comp_dev a a x l) (sym stand.0)
    (subst (λ y. DoorsFit o.step (force_sent o.tuning ss).comp_dev a a None y) (sym stand.1) refl)
doors_of o ss rs (Some a) (q ∷ since) passed u l i stand =
    let d = (force_sent o.tuning ss).comp_dev in
    let values = i.values in
    let fits : AreFitDoors o.step d a q stand.0 stand.1 =
    fit_of o.step d a q stand.0 stand.1 since passed values.after
    (λ x there. values.end_last x
    (sent_of_made o.tuning (force_sent o.tuning ss) x ss (values.made x there)))
    values.fit stand.4 in
    subst (λ x. DoorsFit o.step d a q x l) (sym stand.2)
    (subst (λ y. DoorsFit o.step d a q (Some stand.0) y) (sym stand.3) (values.after q (inl refl), fits))

-- other doors that fit keep the rules
whole_with : (step : Bool) (d : ℕ) (rs : List Rec) (q a u l v m : Option Point)
    → IsBegunOrBlank step d rs q a u l
    → AreDoorsOf step d q a v m → IsBegunOrBlank step d rs q a v m
whole_with step d rs None None u l v m blank doors =
    record { none_recorded = blank.none_recorded; no_upper = doors.0; no_lower = doors.1 }
whole_with step d rs None (Some a) u l v m none doors = absurd none
whole_with step d rs (Some q) None u l v m none doors = absurd none
whole_with step d rs (Some q) (Some a) u l v m begun doors = record {
  begins_kept = begun.begins_kept;
  kept_rise = begun.kept_rise;
  hinge_last = begun.hinge_last;
  late_before = begun.late_before;
  doors = doors;
}

-- ---- what was sent came

-- each value that is sent in order, once the pending one is pushed out, is one of the history
flushed_is : (P : Point → Type 0) (o : Origin) (h : List Event) (x : Point) → AllPoints P h
    → IsAmong (InOrder x) (flushed o h) → P x
flushed_is P o [] x each there = absurd there
flushed_is P o (Tune u ∷ h) x each there = elim (subst (IsAmong (InOrder x)) (tune_sends o u h) there) [
  | inl e ↦ absurd (cc)
  | inr old ↦ flushed_is P o h x each old
]
flushed_is P o (Raw p ∷ h) x each there =
    elim (happens o p h) [
      | comes_late late none all ↦ elim (subst (IsAmong (InOrder x)) all there) [
        | inl e ↦ not_late x p e
        | inr old ↦ flushed_is P o h x each.1 old
      ]
      | goes in_order none all ↦ elim (subst (IsAmong (InOrder x)) all there) [
        | inl e ↦ subst P (sym (same_in_order x p e)) each.0
        | inr old ↦ flushed_is P o h x each.1 old
      ]
      | waits in_order near last waiting all ↦ elim (subst (IsAmong (InOrder x)) all there) [
        | inl e ↦ subst P (sym (same_in_order x p e)) each.0
        | inr old ↦ flushed_is P o h x each.1 (sent_in_flushed (pending o h) (sent o h) (InOrder x) old)
      ]
    ]

-- the values since the hinge are values of the history
since_sent : (o : Origin) (ss : List Sent) (rs : List Rec) (a : Option Point) (since passed : List Point)
    → IsWalked o ss rs a since passed → (x : Point) → IsAmong x since → IsAmong (InOrder x) ss
since_sent o ss rs None [] passed i x there = absurd there
since_sent o ss rs None (q ∷ since) passed i x there = absurd i
since_sent o ss rs (Some a) since passed i x there =
    sent_of_made o.tuning (force_sent o.tuning ss) x ss (i.values.made x there)

-- so they have what the points of the history have
since_is : (P : Point → Type 0) (o : Origin) (h : List Event) → AllPoints P h → (x : Point)
    → IsAmong x (since o h) → P x
since_is P o h each x there =
    let w = walked o h in
    let was =
    since_sent o (sent o h) w.records w.hinge w.since w.passed
    (walk_holds o (sent o h) (sent_rises o h)).walked x there in
    flushed_is P o h x each (sent_in_flushed (pending o h) (sent o h) (InOrder x) was)

-- ---- what stands for a history keeps the rules

-- the doors of what stands for a history fit
history_doors : (o : Origin) (h : List Event) (s : State) → Stands o h s
    → AreDoorsOf o.step (in_force o h).comp_dev (held o h) (hinge o h) s.summary.upper s.summary.lower
history_doors o h s stands = grind (arith, force_sent, force_is, doors_of, walk_holds, sent_rises)

-- what stands for a history keeps the rules, for any property of its points
pub history_ruled : (P : Point → Type 0) (o : Origin) (h : List Event) (s : State) → AllPoints P h
    → Stands o h s
    → IsRuled P (in_force o h) o.step s.records s.summary
history_ruled P o h s each stands =
    let r = state_of o h in
    let so = state_stands o h in
    let ruled = state_ruled P o h each in
    let u = in_force o h in
    let x = s.summary in
    let y = r.summary in
    let at_records = so.same_records ∙ sym stands.same_records in
    let at_held = so.same_held ∙ sym stands.same_held in
    let at_hinge = so.same_hinge ∙ sym stands.same_hinge in
    let at_pending = so.same_pending ∙ sym stands.same_pending in
    let at_taken = so.taken ∙ sym stands.taken in
    let doors =
    doors_are P o.step u.comp_dev (hinge o h) (since o h) x.upper x.lower stands.doors (since_is P o h each) in
    record {
      counted = stands.counted ∙ sym (ap length stands.same_records);
      at_most_two = (let n = ap length at_records in let two = ruled.at_most_two in omega arith);
      whole = grind (arith, whole_with, history_doors);
      waits = subst (λ q. PendingFits u q x.pending) at_held (subst (PendingFits u y.held) at_pending ruled.waits);
      records_are = subst (Each (λ (k : Rec). P k.point)) at_records ruled.records_are;
      held_is = subst (IfThere P) at_held ruled.held_is;
      pending_is = subst (IfThere P) at_pending ruled.pending_is;
      hinge_is = subst (IfThere P) at_hinge ruled.hinge_is;
      upper_is = doors.0;
      lower_is = doors.1;
    }

-- and is a tag's, where its points are in range and there are not too many of anything
pub history_parts : (o : Origin) (h : List Event) (s : State) → AllPoints InRange h → length h < 10 ^ 18
    → length s.records ≤ most_records → Stands o h s → ArePartsOk (in_force o h) o.step s.records s.summary
history_parts o h s each short few stands = record {
  ruled = history_ruled InRange o h s each stands;
  few = few;
  countable = subst (λ n. n < 10 ^ 18) (sym stands.taken) short;
  same_tuning = subst (IfThere (λ t. t ≡ in_force o h)) (sym stands.tuned) refl;
}

-- so is what was kept without its tuning
pub stored_parts : (o : Origin) (h : List Event) (s : State) → AllPoints InRange h → length h < 10 ^ 18
    → length s.records ≤ most_records → StandsAsStored o h s
    → ArePartsOk (in_force o h) o.step s.records s.summary
stored_parts o h s each short few (inl stands) = history_parts o h s each short few stands
stored_parts o h s each short few (inr stands) =
    let parts = history_parts o h (with_made o s) each short few stands.stands in
    record {
      ruled = record {
        counted = parts.ruled.counted;
        at_most_two = parts.ruled.at_most_two;
        whole = parts.ruled.whole;
        waits = parts.ruled.waits;
        records_are = parts.ruled.records_are;
        held_is = parts.ruled.held_is;
        pending_is = parts.ruled.pending_is;
        hinge_is = parts.ruled.hinge_is;
        upper_is = parts.ruled.upper_is;
        lower_is = parts.ruled.lower_is;
      };
      few = parts.few;
      countable = parts.countable;
      same_tuning = subst (IfThere (λ t. t ≡ in_force o h)) (sym stands.untuned) tt;
    }

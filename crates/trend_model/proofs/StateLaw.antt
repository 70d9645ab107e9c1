-- The state machine follows the definitions: two doors in place of the values since the hinge.
use Rattle.std.proofs.Common.{◌≡◌, ℕ, ◌<◌, Bool, true, false, cond, ◌&&◌, List, [], ◌∷◌, ◌++◌, length, Option, None, Some, refl, sym, ap, ◌∙◌, subst, arith}
use Rattle.trend_num.specs.{Point, Rec, Tuning}
use Rattle.trend_model.specs.{IfThere, Event, Origin, Sent, InOrder, Late, Tuned, in_force, sent, AreAfter, AreDoors, upper_after, lower_after, RisesInTime}
use Rattle.trend_model.specs.Walk.{Walk, walk, walk_on, line_on, stair_on, ended, walked, is_short, is_early, is_fit, is_near, last_since_hinge, since}
use Rattle.trend_model.specs.State.{Archive, keeps, holding, line_after, stair_after, ends_at, archive_on, archived, State, archive_in, after_under, after, nothing_taken, replay, followed, DoorsStand, Stands, turned}
use Rattle.trend_model.proofs.Doors.{doors_decide, doors_hang, doors_swing}
use Rattle.trend_model.proofs.Sent.{same_there, not_both}
use Rattle.trend_model.proofs.Order.{sent_rises}
use Rattle.trend_model.proofs.SentTunings.{force_is}
use Rattle.trend_model.proofs.Walks.{line_by, stair_by, held_is_prior}
use Rattle.trend_model.proofs.Chain.{rest_rises}
use Rattle.trend_model.proofs.WalkLaw.{IsWalked, walk_holds}
use Rattle.trend_model.proofs.Fine.{archive}
use Rattle.trend_model.proofs.Offers.{FollowsTurn, turned_follows}

-- the archive of a walk, with these doors
abbrev pub archive_of : Walk → Option Point → Option Point → Archive
archive_of w u l = record {
  tuning = w.tuning;
  records = w.records;
  hinge = w.hinge;
  held = last_since_hinge w.hinge w.since;
  upper = u;
  lower = l;
}

-- an archive that follows a walk
pub record FollowsWalk (step : Bool) (w : Walk) (c : Archive) : Type 0 where
  pub same : c ≡ archive_of w c.upper c.lower
  pub doors : DoorsStand step w.tuning.comp_dev w.hinge w.since c.upper c.lower

-- the values since the hinge come after it, and there is none before there is a hinge
abbrev pub ArePlaced : Option Point → List Point → Type 0
ArePlaced None [] = Unit {0}
ArePlaced None (q ∷ since) = ⊥
ArePlaced (Some a) since = AreAfter a since

-- ---- one thing more that is sent

-- the walk of these parts
abbrev walk_at : Tuning → List Rec → List Point → Option Point → List Point → Walk
walk_at t rs passed a since = record { records = rs; hinge = a; since = since; passed = passed; tuning = t }

-- the three ways on of an archive of lines
abbrev archive_by : Bool → Bool → Archive → Point → Point → Point → Point → Archive
archive_by joins early c p q u l =
    cond joins (holding c p u l) (cond early (holding c p p p) (holding (keeps c q) p p p))

-- each way on of an archive of lines follows its walk
line_by_follows : (joins early : Bool) (t : Tuning) (rs : List Rec) (passed : List Point) (p a q u l : Point)
    (since : List Point)
    → AreDoors a t.comp_dev (q ∷ since) u l → AreAfter a (q ∷ since) → a.t < p.t
    → FollowsWalk false (line_by joins early (walk_at t rs passed (Some a) (q ∷ since)) p q)
    (archive_by joins early (archive_of (walk_at t rs passed (Some a) (q ∷ since)) (Some u) (Some l)) p q
    (upper_after a t.comp_dev u p) (lower_after a t.comp_dev l p))
line_by_follows true early t rs passed p a q u l since doors placed later = record {
  same = refl;
  doors = (
    upper_after a t.comp_dev u p,
    lower_after a t.comp_dev l p,
    refl,
    refl,
    doors_swing a p u l t.comp_dev (q ∷ since) doors placed later,
  );
}
line_by_follows false true t rs passed p a q u l since doors placed later =
    record { same = refl; doors = (p, p, refl, refl, doors_hang a p t.comp_dev) }
line_by_follows false false t rs passed p a q u l since doors placed later =
    record { same = refl; doors = (p, p, refl, refl, doors_hang q p t.comp_dev) }

-- the doors of the two places are these
doors_at : (d : ℕ) (a q u l : Point) (since : List Point)
    → DoorsStand false d (Some a) (q ∷ since) (Some u) (Some l)
    → AreDoors a d (q ∷ since) u l
doors_at d a q u l since stand = grind (arith, same_there)

-- a tag of lines continues by p, which is after the hinge
line_follows : (t : Tuning) (rs : List Rec) (passed : List Point) (p : Point) (a : Option Point)
    (since : List Point)
    (u l : Option Point) → DoorsStand false t.comp_dev a since u l → ArePlaced a since
    → IfThere (λ (z : Point). z.t < p.t) a
    → FollowsWalk false (line_on (walk_at t rs passed a since) p a since)
    (line_after (archive_of (walk_at t rs passed a since) u l) p a (last_since_hinge a since) u l)
line_follows t rs passed p None since u l stand placed later = record { same = refl; doors = (refl, refl) }
line_follows t rs passed p (Some a) [] None None stand placed later =
    record { same = refl; doors = (p, p, refl, refl, doors_hang a p t.comp_dev) }
line_follows t rs passed p (Some a) [] (Some u) l stand placed later = not_both (Some u) u refl stand.0
line_follows t rs passed p (Some a) [] None (Some l) stand placed later = not_both (Some l) l refl stand.1
line_follows t rs passed p (Some a) (q ∷ since) None l stand placed later = not_both None stand.0 stand.2 refl
line_follows t rs passed p (Some a) (q ∷ since) (Some u) None stand placed later = not_both None stand.1 stand.3 refl
line_follows t rs passed p (Some a) (q ∷ since) (Some u) (Some l) stand placed later =
    let w = walk_at t rs passed (Some a) (q ∷ since) in
    let doors = doors_at t.comp_dev a q u l since stand in
    let early = is_short t a p && is_early t a q in
    subst (λ fits. FollowsWalk false (line_by (is_short t a p && is_fit t a (q ∷ since) p) early w p q)
    (archive_by (is_short t a p && fits) early (archive_of w (Some u) (Some l)) p q
    (upper_after a t.comp_dev u p) (lower_after a t.comp_dev l p)))
    (sym (doors_decide a p u l t.comp_dev (q ∷ since) doors placed))
    (line_by_follows (is_short t a p && is_fit t a (q ∷ since) p) early t rs passed p a q u l since doors placed
    later)

-- the three ways on of an archive of stairs
stair_by_follows : (joins early : Bool) (t : Tuning) (rs : List Rec) (passed : List Point) (p a : Point)
    (since : List Point)
    (u l : Option Point) → FollowsWalk true (stair_by joins early (walk_at t rs passed (Some a) since) p)
    (let c = archive_of (walk_at t rs passed (Some a) since) u l in
    cond joins (holding c p p p) (cond early (holding c p p p) (keeps c p)))
stair_by_follows true early t rs passed p a since u l =
    record { same = refl; doors = (p, p, refl, refl, (refl, refl)) }
stair_by_follows false true t rs passed p a since u l =
    record { same = refl; doors = (p, p, refl, refl, (refl, refl)) }
stair_by_follows false false t rs passed p a since u l = record { same = refl; doors = (refl, refl) }

-- so does a step tag
stair_follows : (t : Tuning) (rs : List Rec) (passed : List Point) (p : Point) (a : Option Point)
    (since : List Point)
    (u l : Option Point) → FollowsWalk true (stair_on (walk_at t rs passed a since) p a)
    (stair_after (archive_of (walk_at t rs passed a since) u l) p a)
stair_follows t rs passed p None since u l = record { same = refl; doors = (refl, refl) }
stair_follows t rs passed p (Some a) since u l =
    stair_by_follows (is_short t a p && is_near t a p) (is_short t a p && is_early t a p) t rs passed p a since
    u l

-- a new tuning ends the span since the hinge
tuned_follows : (step : Bool) (t v : Tuning) (rs : List Rec) (passed : List Point) (a : Option Point)
    (since : List Point)
    (u l : Option Point) → DoorsStand step t.comp_dev a since u l → ArePlaced a since
    → FollowsWalk step (record (ended (walk_at t rs passed a since) since) { tuning = v })
    (record (ends_at (archive_of (walk_at t rs passed a since) u l) (last_since_hinge a since) u l) { tuning = v })
tuned_follows step t v rs passed None [] u l stand placed = record { same = refl; doors = stand }
tuned_follows step t v rs passed None (q ∷ since) u l stand placed = absurd placed
tuned_follows step t v rs passed (Some a) [] None l stand placed = record { same = refl; doors = stand }
tuned_follows step t v rs passed (Some a) [] (Some u) l stand placed = not_both (Some u) u refl stand.0
tuned_follows step t v rs passed (Some a) (q ∷ since) None l stand placed = not_both None stand.0 stand.2 refl
tuned_follows step t v rs passed (Some a) (q ∷ since) (Some u) None stand placed = not_both None stand.1 stand.3 refl
tuned_follows step t v rs passed (Some a) (q ∷ since) (Some u) (Some l) stand placed =
    record { same = refl; doors = (refl, refl) }

-- this comes after the hinge, where it is a value in order
abbrev pub IsAfterHinge : Option Point → Sent → Type 0
IsAfterHinge a (InOrder p) = IfThere (λ (z : Point). z.t < p.t) a
IsAfterHinge a (Late x) = Unit {0}
IsAfterHinge a (Tuned u) = Unit {0}

-- each thing more that is sent goes the same way in the archive and in the walk
follows_at : (step : Bool) (w : Walk) (s : Sent) (u l : Option Point)
    → DoorsStand step w.tuning.comp_dev w.hinge w.since u l
    → ArePlaced w.hinge w.since → IsAfterHinge w.hinge s
    → FollowsWalk step (walk_on step w s) (archive_on step (archive_of w u l) s)
follows_at step w (Late x) u l stand placed later = record { same = refl; doors = stand }
follows_at step w (Tuned v) u l stand placed later =
    tuned_follows step w.tuning v w.records w.passed w.hinge w.since u l stand placed
follows_at false w (InOrder p) u l stand placed later =
    line_follows w.tuning w.records w.passed p w.hinge w.since u l stand placed later
follows_at true w (InOrder p) u l stand placed later =
    stair_follows w.tuning w.records w.passed p w.hinge w.since u l

-- an archive that follows a walk continues to follow it
follows_on : (step : Bool) (w : Walk) (c : Archive) (s : Sent) → FollowsWalk step w c
    → ArePlaced w.hinge w.since
    → IsAfterHinge w.hinge s → FollowsWalk step (walk_on step w s) (archive_on step c s)
follows_on step w c s f placed later = grind (arith, follows_at)

-- what the walk's invariant says of the hinge and the values since
placed_of : (o : Origin) (ss : List Sent) (rs : List Rec) (a : Option Point) (since passed : List Point)
    → IsWalked o ss rs a since passed → ArePlaced a since
placed_of o ss rs None [] passed i = tt
placed_of o ss rs None (q ∷ since) passed i = absurd i
placed_of o ss rs (Some a) since passed i = i.values.after

-- a value that is sent in order comes after the hinge
after_hinge : (o : Origin) (s : Sent) (ss : List Sent) (rs : List Rec) (a : Option Point)
    (since passed : List Point)
    → IsWalked o ss rs a since passed → RisesInTime (s ∷ ss) → IsAfterHinge a s
after_hinge o (Late x) ss rs a since passed i rises = tt
after_hinge o (Tuned u) ss rs a since passed i rises = tt
after_hinge o (InOrder p) ss rs None since passed i rises = tt
after_hinge o (InOrder p) ss rs (Some a) since passed i rises =
    rises.0 a (i.chain.kept_sent a i.chain.hinge_kept)

-- the archive of a longer walk
pub archived_follows : (o : Origin) (ss before : List Sent) (c : Archive) → RisesInTime (ss ++ before)
    → FollowsWalk o.step (walk o before) c → FollowsWalk o.step (walk o (ss ++ before)) (archived o.step c ss)
archived_follows o [] before c rises f = f
archived_follows o (s ∷ ss) before c rises f =
    let old = rest_rises s (ss ++ before) rises in
    let w = walk o (ss ++ before) in
    let i = walk_holds o (ss ++ before) old in
    follows_on o.step w (archived o.step c ss) s (archived_follows o ss before c old f)
    (placed_of o (ss ++ before) w.records w.hinge w.since w.passed i.walked)
    (after_hinge o s (ss ++ before) w.records w.hinge w.since w.passed i.walked rises)

-- ---- the state

-- the walk of a history has the tuning in force
walk_tuned : (o : Origin) (h : List Event) → (walked o h).tuning ≡ in_force o h
walk_tuned o h = (walk_holds o (sent o h) (sent_rises o h)).tuned ∙ force_is o h

-- what compression keeps of a state that stands for a history follows its walk
follows_of : (o : Origin) (h : List Event) (s : State) → Stands o h s
    → FollowsWalk o.step (walked o h) (archive_in (in_force o h) s)
follows_of o h s stands = grind (arith, archive, walk_tuned)

-- an event's turn at the two places of a state that stands for a history follows what is sent
turn_follows : (o : Origin) (h : List Event) (e : Event) (s : State) → Stands o h s
    → FollowsTurn o h e (turned (in_force o h) s.summary.held s.summary.pending e)
turn_follows o h e s stands = grind (arith, held_is_prior, turned_follows)

-- the state after an event, from the archive that follows the longer history
under_stands : (o : Origin) (h : List Event) (e : Event) (s : State) → Stands o h s
    → Stands o (e ∷ h) (after_under o.step s e (Some (in_force o h)))
under_stands o h e s stands =
    let t = turned (in_force o h) s.summary.held s.summary.pending e in
    let turn = turn_follows o h e s stands in
    let c = archived o.step (archive_in (in_force o h) s) t.sends in
    let rises : RisesInTime (t.sends ++ sent o h) = subst RisesInTime turn.sends_are (sent_rises o (e ∷ h)) in
    let f : FollowsWalk o.step (walked o (e ∷ h)) c =
    subst (λ ss. FollowsWalk o.step (walk o ss) c) (sym turn.sends_are)
    (archived_follows o t.sends (sent o h) (archive_in (in_force o h) s) rises (follows_of o h s stands)) in
    let taken = stands.taken in
    let w = walked o (e ∷ h) in
    record {
      tuned = ap (λ (r : Archive). Some r.tuning) f.same ∙ ap Some (walk_tuned o (e ∷ h));
      taken = omega arith;
      same_records = ap (λ (r : Archive). r.records) f.same;
      counted = ap (λ (r : Archive). length r.records) f.same;
      same_held = turn.last_is ∙ sym (held_is_prior o (e ∷ h));
      same_pending = turn.pending_is;
      same_hinge = ap (λ (r : Archive). r.hinge) f.same;
      doors = subst (λ (u : Tuning). DoorsStand o.step u.comp_dev w.hinge w.since c.upper c.lower)
          (walk_tuned o (e ∷ h)) f.doors;
    }

-- one event goes from what stands for a history to what stands for the history and that event
pub stands_after : (o : Origin) (h : List Event) (e : Event) (s : State) → Stands o h s
    → Stands o (e ∷ h) (after o.step s e)
stands_after o h e s stands = grind (arith, under_stands)

-- so do any events
pub stands_followed : (o : Origin) (h events : List Event) (s : State) → Stands o h s
    → Stands o (followed h events) (replay o.step s events)
stands_followed o h [] s stands = stands
stands_followed o h (e ∷ events) s stands =
    stands_followed o (e ∷ h) events (after o.step s e) (stands_after o h e s stands)

-- before the first event
pub nothing_stands : (o : Origin) → Stands o [] (nothing_taken o.tuning)
nothing_stands o = grind arith

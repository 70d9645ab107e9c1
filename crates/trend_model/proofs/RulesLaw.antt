-- One more event keeps the rules of records and summaries, whatever state it comes to, and whatever its points have.
use Rattle.std.proofs.Common.{◌≡◌, ℕ, ◌+◌, ◌*◌, ◌^◌, ◌<◌, ◌≤◌, Bool, true, false, List, [], ◌∷◌, ◌++◌, length, Option, None, Some, nat_le, refl, sym, ◌∙◌, arith, length-append}
use Rattle.std.proofs.lemmas.Bool.Decides.{nat_tests}
use Rattle.trend_num.specs.{most_records, Point, Rec, Sending, Tuning, InRange}
use Rattle.trend_num.specs.declared.sending.Sending.TheVariants as sending
use Rattle.trend_model.specs.{IfThere, Event, Raw, Tune, is_far, PendingFits, IsRuled, ArePartsOk, AllPoints, tuned_by}
use Rattle.trend_model.specs.State.{Offer, Turn, turn_of, offered, offered_in_order, gained, turned, Archive, archived, State, archive_in, state_with, after_under, after}
use Rattle.trend_model.proofs.Sent.{not_far}
use Rattle.trend_model.proofs.SentTunings.{force_sent}
use Rattle.trend_model.proofs.Following.{cond_by, held_after, Follows, held_archived, tuning_archived, Grows, grows_none, grows_archived}
use Rattle.trend_model.proofs.Fine.{IsFine, fine_archived}

-- ---- the turn

-- a turn that continues from the held point to the tuning w: what it sends follows, and its two places fit
pub record GoesOn (P : Point → Type 0) (w : Tuning) (last : Option Point) (t : Turn) : Type 0 where
  pub follows : Follows P last t.sends
  pub last_is : t.last ≡ held_after last t.sends
  pub waits : PendingFits w t.last t.pending
  pub pending_is : IfThere P t.pending

-- what the tests of two times say
at_most : (m n : ℕ) → nat_le m n ≡ true → m ≤ n
at_most m n e = grind (arith, nat_tests)

-- and where they fail
above : (m n : ℕ) → nat_le m n ≡ false → n < m
above m n e = grind (arith, nat_tests)

-- what is not far may wait
near_waits : (u : Tuning) (s p : Point) → s.t < p.t → is_far u s p ≡ false → PendingFits u (Some s) (Some p)
near_waits u s p later near = let n = not_far u s p near in (later, n.0, n.1)

-- the three things that an exception test does: it sends p after what waits, sends it late after what waits, or lets it wait
abbrev sends : Option Point → Point → Offer
sends waiting p = record { last = Some p; pending = None; first = waiting; second = Some (sending.InOrder p) }

-- p is sent late, after what waits
abbrev sends_late : Point → Option Point → Point → Offer
sends_late s waiting p =
    record { last = Some s; pending = None; first = waiting; second = Some (sending.Late p) }

-- p waits
abbrev waits_for : Point → Point → Offer
waits_for s p = record { last = Some s; pending = Some p; first = None; second = None }

-- a far value goes, after what waits
far_goes : (P : Point → Type 0) (u : Tuning) (s p : Point) (waiting : Option Point)
    → PendingFits u (Some s) waiting → IfThere P waiting
    → P p → s.t < p.t → IfThere (λ (q : Point). q.t < p.t) waiting
    → GoesOn P u (Some s) (turn_of (sends waiting p))
far_goes P u s p None waits waiting_is here later order =
    record { follows = (tt, (here, later)); last_is = refl; waits = tt; pending_is = tt }
far_goes P u s p (Some q) waits waiting_is here later order =
    record {
      follows = ((tt, (waiting_is, waits.0)), (here, order));
      last_is = refl;
      waits = tt;
      pending_is = tt;
    }

-- a value in order goes, or waits
in_order_goes : (P : Point → Type 0) (u : Tuning) (s p : Point) (waiting : Option Point)
    → PendingFits u (Some s) waiting → IfThere P waiting
    → P p → s.t < p.t → IfThere (λ (q : Point). q.t < p.t) waiting
    → GoesOn P u (Some s) (turn_of (offered_in_order u s waiting p))
in_order_goes P u s p waiting waits waiting_is here later order = grind (arith, cond_by, far_goes, near_waits)

-- what an exception test does with a value continues from its two places
pub offered_goes : (P : Point → Type 0) (u : Tuning) (last waiting : Option Point) (p : Point)
    → PendingFits u last waiting → IfThere P waiting
    → P p → GoesOn P u last (turn_of (offered u last waiting p))
offered_goes P u None None p waits waiting_is here =
    record { follows = (tt, (here, tt)); last_is = refl; waits = tt; pending_is = tt }
offered_goes P u None (Some q) p waits waiting_is here = absurd waits
offered_goes P u (Some s) None p waits waiting_is here =
    cond_by (λ o. GoesOn P u (Some s) (turn_of o)) (nat_le p.t s.t) (sends_late s None p)
    (offered_in_order u s None p)
    (λ e. record { follows = (tt, (here, at_most p.t s.t e)); last_is = refl; waits = tt; pending_is = tt })
    (λ e. in_order_goes P u s p None waits tt here (above p.t s.t e) tt)
offered_goes P u (Some s) (Some q) p waits waiting_is here =
    let first : s.t < q.t = waits.0 in
    cond_by (λ o. GoesOn P u (Some s) (turn_of o)) (nat_le p.t q.t) (sends_late q (Some q) p)
    (offered_in_order u s (Some q) p)
    (λ e. record {
      follows = ((tt, (waiting_is, first)), (here, at_most p.t q.t e));
      last_is = refl;
      waits = tt;
      pending_is = tt;
    })
    (λ e. (
    let second = above p.t q.t e in
    in_order_goes P u s p (Some q) waits waiting_is here (omega arith) second))

-- so does each event
pub turn_goes : (P : Point → Type 0) (u : Tuning) (last waiting : Option Point) (e : Event)
    → PendingFits u last waiting → IfThere P waiting
    → AllPoints P (e ∷ []) → GoesOn P (tuned_by u e) last (turned u last waiting e)
turn_goes P u last waiting (Raw p) waits waiting_is here =
    offered_goes P u last waiting p waits waiting_is here.0
turn_goes P u last None (Tune w) waits waiting_is here =
    record { follows = (tt, tt); last_is = refl; waits = tt; pending_is = tt }
turn_goes P u None (Some q) (Tune w) waits waiting_is here = absurd waits
turn_goes P u (Some s) (Some q) (Tune w) waits waiting_is here =
    record { follows = ((tt, (waiting_is, waits.0)), tt); last_is = refl; waits = tt; pending_is = tt }

-- an offer hands out two things at most
pub gained_few : (first : Option Point) (second : Option Sending) → length (gained first second) ≤ 2
gained_few None None = omega arith
gained_few None (Some s) = omega arith
gained_few (Some q) None = omega arith
gained_few (Some q) (Some s) = omega arith

-- a turn sends two things at most
pub turned_few : (u : Tuning) (last waiting : Option Point) (e : Event)
    → length (turned u last waiting e).sends ≤ 2
turned_few u last waiting (Raw p) = let o = offered u last waiting p in gained_few o.first o.second
turned_few u last None (Tune w) = omega arith
turned_few u last (Some q) (Tune w) = omega arith

-- and the tuning of a retuning
turned_tuning : (u : Tuning) (last waiting : Option Point) (e : Event)
    → force_sent u (turned u last waiting e).sends ≡ tuned_by u e
turned_tuning u last waiting (Tune w) = refl
turned_tuning u last waiting (Raw p) = let o = offered u last waiting p in by_second o.first o.second
  where
    by_second : (first : Option Point) (second : Option Sending) → force_sent u (gained first second) ≡ u
    by_second None None = refl
    by_second (Some q) None = refl
    by_second None (Some (sending.InOrder p)) = refl
    by_second (Some q) (Some (sending.InOrder p)) = refl
    by_second None (Some (sending.Late p)) = refl
    by_second (Some q) (Some (sending.Late p)) = refl

-- ---- the state

-- the records of a state grow by two at most
under_grows : (step : Bool) (s : State) (e : Event) (t : Option Tuning)
    → Grows 2 s.records (after_under step s e t).records
under_grows step s e None = grows_none 2 s.records
under_grows step s e (Some u) =
    let t = turned u s.summary.held s.summary.pending e in
    let grown = grows_archived step (archive_in u s) t.sends in
    let more = grown.few in
    let few = turned_few u s.summary.held s.summary.pending e in
    record { more = grown.more; at_end = grown.at_end; few = omega arith }

-- one event adds two records at most, at the end
pub after_grows : (step : Bool) (s : State) (e : Event) → Grows 2 s.records (after step s e).records
after_grows step s e = under_grows step s e s.summary.tuning

-- so there are two more at most
grown_length : (most : ℕ) (old new : List Rec) → Grows most old new → length new ≤ length old + most
grown_length most old new grows = grind (arith, length-append)

-- one event adds two records at most
pub after_adds : (step : Bool) (s : State) (e : Event) → length (after step s e).records ≤ length s.records + 2
after_adds step s e = grown_length 2 s.records (after step s e).records (after_grows step s e)

-- one event leaves the records that were there
pub after_more : (step : Bool) (s : State) (e : Event)
    → (more : List Rec) × ((after step s e).records ≡ s.records ++ more)
after_more step s e = let grown = after_grows step s e in (grown.more, grown.at_end)

-- what compression keeps of a state that keeps the rules is fine
pub fine_of : (P : Point → Type 0) (u : Tuning) (step : Bool) (s : State)
    → IsRuled P u step s.records s.summary → IsFine P step (archive_in u s)
fine_of P u step s ruled = grind arith

-- what an event sends to a state that keeps the rules comes in its turn
pub turn_of_ruled : (P : Point → Type 0) (u : Tuning) (step : Bool) (s : State) (e : Event)
    → IsRuled P u step s.records s.summary
    → AllPoints P (e ∷ []) → GoesOn P (tuned_by u e) s.summary.held
    (turned u s.summary.held s.summary.pending e)
turn_of_ruled P u step s e ruled here = grind (arith, turn_goes)

-- the archive after an event has the event's tuning
pub tuning_is : (u : Tuning) (step : Bool) (s : State) (e : Event)
    → (archived step (archive_in u s) (turned u s.summary.held s.summary.pending e).sends).tuning ≡ tuned_by u e
tuning_is u step s e = grind (arith, tuning_archived, turned_tuning)

-- a fine archive, whose held point is the last value and whose tuning is w, with a pending value that fits
state_ruled : (P : Point → Type 0) (w : Tuning) (step : Bool) (c : Archive) (taken : ℕ)
    (last waiting : Option Point) → IsFine P step c
    → c.tuning ≡ w → c.held ≡ last → length c.records ≤ 2 * taken → PendingFits w last waiting
    → IfThere P waiting
    → IsRuled P w step (state_with c taken last waiting).records (state_with c taken last waiting).summary
state_ruled P w step c taken last waiting fine tuned same two waits waiting_is = grind arith

-- one event keeps the rules of a state with a tuning
under_ruled : (P : Point → Type 0) (u : Tuning) (step : Bool) (s : State) (e : Event)
    → IsRuled P u step s.records s.summary
    → AllPoints P (e ∷ []) → IsRuled P (tuned_by u e) step (after_under step s e (Some u)).records
    (after_under step s e (Some u)).summary
under_ruled P u step s e ruled here =
    let t = turned u s.summary.held s.summary.pending e in
    let goes = turn_of_ruled P u step s e ruled here in
    let fine = fine_archived P step (archive_in u s) t.sends (fine_of P u step s ruled) goes.follows in
    let two = ruled.at_most_two in
    let more =
    grown_length 2 s.records (archived step (archive_in u s) t.sends).records
    (under_grows step s e (Some u)) in
    state_ruled P (tuned_by u e) step (archived step (archive_in u s) t.sends) (s.summary.taken + 1) t.last
    t.pending fine
    (tuning_is u step s e) (held_archived step (archive_in u s) t.sends ∙ sym goes.last_is)
    (omega arith) goes.waits goes.pending_is

-- one event keeps the rules, from any state, for any property of points
pub after_ruled : (P : Point → Type 0) (u : Tuning) (step : Bool) (s : State) (e : Event)
    → IsRuled P u step s.records s.summary
    → s.summary.tuning ≡ Some u → AllPoints P (e ∷ [])
    → IsRuled P (tuned_by u e) step (after step s e).records (after step s e).summary
after_ruled P u step s e ruled tuned here = grind (arith, under_ruled)

-- and parts that are ok
under_parts : (u : Tuning) (step : Bool) (s : State) (e : Event) → ArePartsOk u step s.records s.summary
    → AllPoints InRange (e ∷ [])
    → s.summary.taken + 1 < 10 ^ 18 → length (after_under step s e (Some u)).records ≤ most_records
    → ArePartsOk (tuned_by u e) step (after_under step s e (Some u)).records
    (after_under step s e (Some u)).summary
under_parts u step s e parts here countable few = grind (arith, under_ruled, tuning_is)

-- one event keeps parts that are ok, where there are not too many of anything
pub after_parts : (u : Tuning) (step : Bool) (s : State) (e : Event) → s.summary.tuning ≡ Some u
    → ArePartsOk u step s.records s.summary
    → AllPoints InRange (e ∷ []) → length (after step s e).records ≤ most_records → s.summary.taken + 1 < 10 ^ 18
    → ArePartsOk (tuned_by u e) step (after step s e).records (after step s e).summary
after_parts u step s e tuned parts here few countable = grind (arith, under_parts)

-- What an event makes of the two places of an exception test is what the definitions say of the longer history.
use Rattle.std.proofs.Common.{◌≡◌, Bool, true, false, cond, ◌||◌, List, ◌∷◌, ◌++◌, Option, None, Some, nat_le, refl, sym, ◌∙◌}
use Rattle.std.specs.Option.{option_or}
use Rattle.trend_num.specs.{Point, Tuning}
use Rattle.trend_num.specs.declared.sending.Sending.TheVariants as sending
use Rattle.trend_model.specs.{Event, Raw, Tune, Origin, Sent, in_force, is_late, is_far, is_far_from, newest, prior, pending, sent}
use Rattle.trend_model.specs.State.{Offer, offered, pushed_out, gained, Turn, turned}
use Rattle.trend_model.proofs.Sent.{is_not_after, is_late_newest, newest_is, pending_none, sent_on, value_sends, tune_sends}

-- the two tests of an offer where nothing is pending, and where q is
abbrev offer_alone : Bool → Bool → Point → Point → Offer
offer_alone late far s p =
    cond late (record { last = Some s; pending = None; first = None; second = Some (sending.Late p) })
    (cond far (record { last = Some p; pending = None; first = None; second = Some (sending.InOrder p) })
    (record { last = Some s; pending = Some p; first = None; second = None }))

-- the two tests of an offer where q is pending
abbrev offer_after : Bool → Bool → Point → Point → Point → Offer
offer_after late far s q p =
    cond late (record { last = Some q; pending = None; first = Some q; second = Some (sending.Late p) })
    (cond far (record { last = Some p; pending = None; first = Some q; second = Some (sending.InOrder p) })
    (record { last = Some s; pending = Some p; first = None; second = None }))

-- an offer f that agrees with what the definitions say of the value p: whether it is late, whether it is far, the newest
-- value, the last one sent before it and the pending one, and what was sent before
record IsFollowed (p : Point) (f : Offer) (late far : Bool) (newest last waiting : Option Point)
    (before : List Sent) : Type 0 where
  last_is : f.last ≡ cond late newest (cond far (Some p) last)
  pending_is : f.pending ≡ cond (late || far) None (Some p)
  sends : sent_on late far p (pushed_out waiting ++ before) before ≡ gained f.first f.second ++ before

-- an offer where nothing is pending agrees with the definitions
followed_alone : (late far : Bool) (s p : Point) (before : List Sent)
    → IsFollowed p (offer_alone late far s p) late far (Some s) (Some s) None before
followed_alone true far s p before = record { last_is = refl; pending_is = refl; sends = refl }
followed_alone false true s p before = record { last_is = refl; pending_is = refl; sends = refl }
followed_alone false false s p before = record { last_is = refl; pending_is = refl; sends = refl }

-- so does one where q is
followed_after : (late far : Bool) (s q p : Point) (before : List Sent)
    → IsFollowed p (offer_after late far s q p) late far (Some q) (Some s) (Some q) before
followed_after true far s q p before = record { last_is = refl; pending_is = refl; sends = refl }
followed_after false true s q p before = record { last_is = refl; pending_is = refl; sends = refl }
followed_after false false s q p before = record { last_is = refl; pending_is = refl; sends = refl }

-- so does each, where nothing is pending before the first value
offered_is : (u : Tuning) (last waiting : Option Point) (p : Point) (before : List Sent)
    → (last ≡ None → waiting ≡ None)
    → IsFollowed p (offered u last waiting p) (is_not_after (option_or waiting last) p) (is_far_from u last p)
    (option_or waiting last) last waiting before
offered_is u None None p before first = record { last_is = refl; pending_is = refl; sends = refl }
offered_is u None (Some q) p before first = absurd (let none = first refl in cc)
offered_is u (Some s) None p before first = followed_alone (nat_le p.t s.t) (is_far u s p) s p before
offered_is u (Some s) (Some q) p before first = followed_after (nat_le p.t q.t) (is_far u s p) s q p before

-- an offer that follows what is sent of the history and one more value
pub record FollowsSent (o : Origin) (h : List Event) (p : Point) (f : Offer) : Type 0 where
  pub last_is : f.last ≡ prior o (Raw p ∷ h)
  pub pending_is : f.pending ≡ pending o (Raw p ∷ h)
  pub sends : sent o (Raw p ∷ h) ≡ gained f.first f.second ++ sent o h

-- the exception test's rules follow what is sent
pub offered_follows : (o : Origin) (h : List Event) (p : Point)
    → FollowsSent o h p (offered (in_force o h) (prior o h) (pending o h) p)
offered_follows o h p =
    let f : IsFollowed p (offered (in_force o h) (prior o h) (pending o h) p) (is_late p h)
    (is_far_from (in_force o h) (prior o h) p) (newest h) (prior o h) (pending o h) (sent o h) =
    rw (is_late_newest p h, newest_is o h)
    (offered_is (in_force o h) (prior o h) (pending o h) p (sent o h) (pending_none o h)) in
    record { last_is = f.last_is; pending_is = f.pending_is; sends = value_sends o p h ∙ f.sends }

-- a turn that follows what is sent of the history and one more event
pub record FollowsTurn (o : Origin) (h : List Event) (e : Event) (t : Turn) : Type 0 where
  pub last_is : t.last ≡ prior o (e ∷ h)
  pub pending_is : t.pending ≡ pending o (e ∷ h)
  pub sends_are : sent o (e ∷ h) ≡ t.sends ++ sent o h

-- each event follows what is sent
pub turned_follows : (o : Origin) (h : List Event) (e : Event)
    → FollowsTurn o h e (turned (in_force o h) (prior o h) (pending o h) e)
turned_follows o h (Raw p) =
    let f = offered_follows o h p in
    record { last_is = f.last_is; pending_is = f.pending_is; sends_are = f.sends }
turned_follows o h (Tune w) =
    record { last_is = sym (newest_is o h); pending_is = refl; sends_are = tune_sends o w h }

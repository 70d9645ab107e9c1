-- The tuning under which each value was sent.
use Rattle.std.proofs.Common.{◌≡◌, ℕ, ◌<◌, ◌⊎◌, inl, inr, Bool, true, false, cond, ◌&&◌, not, List, [], ◌∷◌, ◌++◌, Option, None, Some, nat_eq, refl, sym, ap, ◌∙◌, subst, arith}
use Rattle.std.proofs.lemmas.Bool.Decides.{nat_tests}
use Rattle.trend_num.specs.{Point, Tuning}
use Rattle.trend_model.specs.{IsAmong, Event, Raw, Tune, Origin, Sent, InOrder, Late, Tuned, in_force, is_late, is_far_from, prior, pending, sent, tuning_of_value}
use Rattle.trend_model.specs.State.{pushed_out}
use Rattle.trend_model.proofs.Sent.{flushed, sent_on, tune_sends, value_sends, comes_late, goes, waits, happens}
use Rattle.trend_model.proofs.Order.{time_of, IsNew, new_after, new_sent, flushed_rises}

-- the tuning in force after all that was sent, from that before it
abbrev pub force_sent : Tuning → List Sent → Tuning
force_sent t [] = t
force_sent t (Tuned u ∷ ss) = u
force_sent t (Late x ∷ ss) = force_sent t ss
force_sent t (InOrder x ∷ ss) = force_sent t ss

-- x was sent in order while u was in force
abbrev pub IsMade : Tuning → Tuning → Point → List Sent → Type 0
IsMade t u x [] = ⊥
IsMade t u x (Tuned w ∷ ss) = IsMade t u x ss
IsMade t u x (Late y ∷ ss) = IsMade t u x ss
IsMade t u x (InOrder p ∷ ss) = ((x ≡ p) × (u ≡ force_sent t ss)) ⊎ IsMade t u x ss

-- what was made continues to be
pub made_more : (t u : Tuning) (x : Point) (s : Sent) (ss : List Sent) → IsMade t u x ss
    → IsMade t u x (s ∷ ss)
made_more t u x (Tuned w) ss made = made
made_more t u x (Late y) ss made = made
made_more t u x (InOrder p) ss made = inr made

-- what was made was sent in order
pub sent_of_made : (t u : Tuning) (x : Point) (ss : List Sent) → IsMade t u x ss → IsAmong (InOrder x) ss
sent_of_made t u x [] made = absurd made
sent_of_made t u x (Tuned w ∷ ss) made = inr (sent_of_made t u x ss made)
sent_of_made t u x (Late y ∷ ss) made = inr (sent_of_made t u x ss made)
sent_of_made t u x (InOrder p ∷ ss) (inl here) = inl (ap InOrder here.0)
sent_of_made t u x (InOrder p ∷ ss) (inr made) = inr (sent_of_made t u x ss made)

-- ---- a history's tunings

-- a pending value that is sent leaves the tuning
force_pushed : (t : Tuning) (w : Option Point) (ss : List Sent) → force_sent t (pushed_out w ++ ss)
    ≡ force_sent t ss
force_pushed t None ss = refl
force_pushed t (Some q) ss = refl

-- and so does a value, late or in order
force_on : (o : Origin) (p : Point) (h : List Event) (late far : Bool)
    → force_sent o.tuning (sent_on late far p (flushed o h) (sent o h)) ≡ force_sent o.tuning (sent o h)
force_on o p h true far = force_pushed o.tuning (pending o h) (sent o h)
force_on o p h false true = force_pushed o.tuning (pending o h) (sent o h)
force_on o p h false false = refl

-- what was sent says which tuning is in force
pub force_is : (o : Origin) (h : List Event) → force_sent o.tuning (sent o h) ≡ in_force o h
force_is o [] = refl
force_is o (Tune u ∷ h) = refl
force_is o (Raw p ∷ h) =
    ap (force_sent o.tuning) (value_sends o p h)
    ∙ force_on o p h (is_late p h) (is_far_from (in_force o h) (prior o h) p) ∙ force_is o h

-- and so does what is sent once the pending value is pushed out
pub force_flushed : (o : Origin) (h : List Event) → force_sent o.tuning (flushed o h) ≡ in_force o h
force_flushed o h = force_pushed o.tuning (pending o h) (sent o h) ∙ force_is o h

-- what was made continues to be, where the pending value is pushed out
made_in_flushed : (t u : Tuning) (x : Point) (w : Option Point) (ss : List Sent) → IsMade t u x ss
    → IsMade t u x (pushed_out w ++ ss)
made_in_flushed t u x None ss made = made
made_in_flushed t u x (Some q) ss made = inr made

-- a late value leaves the tuning at each time
at_by : (late here : Bool) (new old : Tuning) → late ≡ true → cond (not late && here) new old ≡ old
at_by true here new old e = refl
at_by false here new old e = absurd (cc)

-- one in order sets it at its own time
at_here : (late here : Bool) (new old : Tuning) → late ≡ false → here ≡ true → cond (not late && here) new old
    ≡ new
at_here false true new old a b = refl
at_here false false new old a b = absurd (cc)
at_here true here new old a b = absurd (cc)

-- and leaves it at each other time
at_before : (late here : Bool) (new old : Tuning) → here ≡ false → cond (not late && here) new old ≡ old
at_before true false new old a = refl
at_before false false new old a = refl
at_before late true new old a = absurd (cc)

-- equal numbers test as equal
same_test : (m n : ℕ) → m ≡ n → nat_eq n m ≡ true
same_test m n h = grind (arith, nat_tests)

-- a number and a greater one test as different
below_test : (m n : ℕ) → m < n → nat_eq n m ≡ false
below_test m n h = grind (arith, nat_tests)

-- one more value in order leaves the tunings of those that were made before it
made_on : (o : Origin) (u : Tuning) (p x : Point) (h : List Event) (ss : List Sent) → is_late p h ≡ false
    → IsNew p ss → force_sent o.tuning ss ≡ in_force o h → (IsMade o.tuning u x ss → tuning_of_value o h x.t ≡ u)
    → IsMade o.tuning u x (InOrder p ∷ ss) → tuning_of_value o (Raw p ∷ h) x.t ≡ u
made_on o u p x h ss in_order new force before (inl here) =
    at_here (is_late p h) (nat_eq p.t x.t) (in_force o h) (tuning_of_value o h x.t) in_order
    (same_test x.t p.t (time_of x p here.0)) ∙ sym force ∙ sym here.1
made_on o u p x h ss in_order new force before (inr made) =
    at_before (is_late p h) (nat_eq p.t x.t) (in_force o h) (tuning_of_value o h x.t)
    (below_test x.t p.t (new x (sent_of_made o.tuning u x ss made))) ∙ before made

-- a value that is sent, or waits, is made under the tuning that was in force when it came
pub made_at_flushed : (o : Origin) (u : Tuning) (x : Point) (h : List Event)
    → IsMade o.tuning u x (flushed o h) → tuning_of_value o h x.t ≡ u
made_at_flushed o u x [] made = absurd made
made_at_flushed o u x (Tune w ∷ h) made =
    made_at_flushed o u x h (subst (IsMade o.tuning u x) (tune_sends o w h) made)
made_at_flushed o u x (Raw p ∷ h) made =
    let rises = flushed_rises o h in
    let before = made_at_flushed o u x h in
    elim (happens o p h) [
      | comes_late late none all ↦
          at_by (is_late p h) (nat_eq p.t x.t) (in_force o h) (tuning_of_value o h x.t) late
          ∙ before (subst (IsMade o.tuning u x) all made)
      | goes in_order none all ↦
          made_on o u p x h (flushed o h) in_order (new_after o p h rises in_order) (force_flushed o h) before
          (subst (IsMade o.tuning u x) all made)
      | waits in_order near last there all ↦
          made_on o u p x h (sent o h) in_order (new_sent o p h rises in_order) (force_is o h)
          (λ old. before (made_in_flushed o.tuning u x (pending o h) (sent o h) old))
          (subst (IsMade o.tuning u x) all made)
    ]

-- a value was made under the tuning that was in force when it came
pub made_at : (o : Origin) (u : Tuning) (x : Point) (h : List Event) → IsMade o.tuning u x (sent o h)
    → tuning_of_value o h x.t ≡ u
made_at o u x h made = made_at_flushed o u x h (made_in_flushed o.tuning u x (pending o h) (sent o h) made)

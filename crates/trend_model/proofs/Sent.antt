-- Lemmas on what an exception test sends of a history.
use Rattle.std.proofs.Common.{◌≡◌, ◌+◌, ◌<◌, ◌≤◌, ◌-ℤ◌, Bool, true, false, cond, ◌||◌, List, [], ◌∷◌, ◌++◌, Option, None, Some, nat_le, unsigned_abs, refl, sym, ap, ◌∙◌, arith}
use Rattle.std.proofs.lemmas.Bool.{false≢true}
use Rattle.std.proofs.lemmas.Bool.Decides.{nat_tests}
use Rattle.std.specs.Option.{option_or}
use Rattle.trend_num.specs.{Point, Tuning}
use Rattle.trend_model.specs.{Event, Raw, Tune, Origin, Sent, InOrder, Late, Tuned, in_force, is_late, is_far, is_far_from, newest, prior, pending, is_pushed_out, sent, sent_before, last_in_order}
use Rattle.trend_model.specs.State.{pushed_out}

-- ---- places of values

-- two values of one place are the same
pub same_there : {A : Type 0} (o : Option A) (x y : A) → o ≡ Some x → o ≡ Some y → x ≡ y
same_there o x y a b = cc

-- no place has a value and has none
pub not_both : {A P : Type 0} (o : Option A) (x : A) → o ≡ Some x → o ≡ None → P
not_both o x a b = cc

-- a value that is not far is near, and comes soon
pub not_far : (u : Tuning) (s p : Point) → is_far u s p ≡ false
    → (unsigned_abs (p.v -ℤ s.v) ≤ u.exc_dev) × (p.t < s.t + u.exc_max)
not_far u s p e = grind (arith, nat_tests)

-- ---- the newest value

-- p is not after that value
abbrev pub is_not_after : Option Point → Point → Bool
is_not_after None p = false
is_not_after (Some q) p = nat_le p.t q.t

-- late after a value and what came before it
late_cons : (p q : Point) (n : Option Point) (late : Bool) → late ≡ is_not_after n q
    → nat_le p.t q.t || is_not_after n p ≡ is_not_after (cond late n (Some q)) p
late_cons p q None true h = absurd (false≢true (sym h))
late_cons p q None false h = grind (arith, nat_tests)
late_cons p q (Some m) true h = grind (arith, nat_tests)
late_cons p q (Some m) false h = grind (arith, nat_tests)

-- a value is late exactly where it is not after the newest one
pub is_late_newest : (p : Point) (h : List Event) → is_late p h ≡ is_not_after (newest h) p
is_late_newest p [] = refl
is_late_newest p (Tune u ∷ h) = is_late_newest p h
is_late_newest p (Raw q ∷ h) =
    ap (λ b. nat_le p.t q.t || b) (is_late_newest p h) ∙ late_cons p q (newest h) (is_late q h)
    (is_late_newest q h)

-- the same by the two tests of the newest value
newest_of : (p : Point) (n s : Option Point) (late far : Bool) → cond late n (Some p)
    ≡ option_or (cond (late || far) None (Some p)) (cond late n (cond far (Some p) s))
newest_of p n s true far = refl
newest_of p n s false true = refl
newest_of p n s false false = refl

-- the newest value is the pending one, or else the last one sent in order
pub newest_is : (o : Origin) (h : List Event) → newest h ≡ option_or (pending o h) (prior o h)
newest_is o [] = refl
newest_is o (Tune u ∷ h) = refl
newest_is o (Raw p ∷ h) =
    newest_of p (newest h) (prior o h) (is_late p h) (is_far_from (in_force o h) (prior o h) p)

-- the same by the two tests of that value
prior_of : (u : Tuning) (q : Point) (n s : Option Point) (late : Bool) → late ≡ is_not_after n q
    → (x : Point) × (cond late n (cond (is_far_from u s q) (Some q) s) ≡ Some x)
prior_of u q None s true h = absurd (false≢true (sym h))
prior_of u q (Some m) s true h = (m, refl)
prior_of u q n None false h = (q, refl)
prior_of u q n (Some x) false h =
    elim (is_far u x q) as (λ b. (y : Point) × (cond b (Some q) (Some x) ≡ Some y)) [
      | true ↦ (q, refl)
      | false ↦ (x, refl)
    ]

-- once there is a raw value, one was sent in order
pub prior_there : (o : Origin) (q : Point) (h : List Event) → (x : Point) × (prior o (Raw q ∷ h) ≡ Some x)
prior_there o q h = prior_of (in_force o h) q (newest h) (prior o h) (is_late q h) (is_late_newest q h)

-- where nothing was sent in order, none is pending
pub pending_none : (o : Origin) (h : List Event) → prior o h ≡ None → pending o h ≡ None
pending_none o [] e = refl
pending_none o (Tune u ∷ h) e = refl
pending_none o (Raw q ∷ h) e = let s = prior_there o q h in not_both (prior o (Raw q ∷ h)) s.0 s.1 e

-- ---- what one more event sends

-- what is sent of a history once the pending value is pushed out
abbrev pub flushed : Origin → List Event → List Sent
flushed o h = pushed_out (pending o h) ++ sent o h

-- the same by the tests of the newest value and of the next event
next_of : (q : Point) (before : List Sent) (late far out : Bool)
    → cond late (Late q ∷ before) (cond (far || out) (InOrder q ∷ before) before)
    ≡ pushed_out (cond out (cond (late || far) None (Some q)) None)
    ++ cond late (Late q ∷ before) (cond (far || false) (InOrder q ∷ before) before)
next_of q before true far true = refl
next_of q before true far false = refl
next_of q before false true true = refl
next_of q before false true false = refl
next_of q before false false true = refl
next_of q before false false false = refl

-- where nothing is pending nothing is pushed out
none_out : (ss : List Sent) (out : Bool) → ss ≡ pushed_out (cond out None None) ++ ss
none_out ss true = refl
none_out ss false = refl

-- the next event pushes out the pending value, or changes nothing in what was sent
pub sent_next : (o : Origin) (h : List Event) (e : Event) → sent_before o h (Some e)
    ≡ pushed_out (cond (is_pushed_out o h (Some e)) (pending o h) None) ++ sent o h
sent_next o [] e = none_out [] (is_pushed_out o [] (Some e))
sent_next o (Tune u ∷ h) e = none_out (sent o (Tune u ∷ h)) (is_pushed_out o (Tune u ∷ h) (Some e))
sent_next o (Raw q ∷ h) e =
    next_of q (sent_before o h (Some (Raw q))) (is_late q h) (is_far_from (in_force o h) (prior o h) q)
    (is_pushed_out o (Raw q ∷ h) (Some e))

-- a retuning sends the pending value, and then the new tuning
pub tune_sends : (o : Origin) (u : Tuning) (h : List Event) → sent o (Tune u ∷ h) ≡ Tuned u ∷ flushed o h
tune_sends o u h = ap (λ ss. Tuned u ∷ ss) (sent_next o h (Tune u))

-- what a value sends, by whether it is late and whether it is far
abbrev pub sent_on : Bool → Bool → Point → List Sent → List Sent → List Sent
sent_on late far p all before = cond late (Late p ∷ all) (cond far (InOrder p ∷ all) before)

-- the same of what was sent before the value, by its two tests
value_of : (late far : Bool) (p : Point) (w : Option Point) (before : List Sent)
    → sent_on late (far || false) p (pushed_out (cond (late || far) w None) ++ before)
    (pushed_out (cond (late || far) w None) ++ before)
    ≡ sent_on late far p (pushed_out w ++ before) before
value_of true far p w before = refl
value_of false true p w before = refl
value_of false false p w before = refl

-- a value is sent late, or in order, after all that waits, or is not sent
pub value_sends : (o : Origin) (p : Point) (h : List Event) → sent o (Raw p ∷ h)
    ≡ sent_on (is_late p h) (is_far_from (in_force o h) (prior o h) p) p (flushed o h) (sent o h)
value_sends o p h = grind (arith, sent_next, value_of)

-- what a value does: it comes late, it goes, or it waits
pub data Happens (o : Origin) (p : Point) (h : List Event) : Type 0 where
  comes_late : is_late p h ≡ true → pending o (Raw p ∷ h) ≡ None
      → flushed o (Raw p ∷ h) ≡ Late p ∷ flushed o h → Happens o p h
  goes : is_late p h ≡ false → pending o (Raw p ∷ h) ≡ None
      → flushed o (Raw p ∷ h) ≡ InOrder p ∷ flushed o h → Happens o p h
  waits : is_late p h ≡ false → is_far_from (in_force o h) (prior o h) p ≡ false
      → prior o (Raw p ∷ h) ≡ prior o h → pending o (Raw p ∷ h) ≡ Some p
      → flushed o (Raw p ∷ h) ≡ InOrder p ∷ sent o h → Happens o p h

-- by the two tests of the value
happens_by : (o : Origin) (p : Point) (h : List Event) (late far : Bool) → is_late p h ≡ late
    → is_far_from (in_force o h) (prior o h) p ≡ far
    → prior o (Raw p ∷ h) ≡ cond late (newest h) (cond far (Some p) (prior o h))
    → pending o (Raw p ∷ h) ≡ cond (late || far) None (Some p)
    → flushed o (Raw p ∷ h)
    ≡ pushed_out (cond (late || far) None (Some p)) ++ sent_on late far p (flushed o h) (sent o h)
    → Happens o p h
happens_by o p h true far late_is far_is last waiting all = comes_late late_is waiting all
happens_by o p h false true late_is far_is last waiting all = goes late_is waiting all
happens_by o p h false false late_is far_is last waiting all = waits late_is far_is last waiting all

-- one of the three things happens
pub happens : (o : Origin) (p : Point) (h : List Event) → Happens o p h
happens o p h = grind (arith, happens_by, value_sends)

-- ---- the last value sent

-- the last value of a history whose pending value is pushed out
last_pushed : (w : Option Point) (ss : List Sent) → last_in_order (pushed_out w ++ ss)
    ≡ option_or w (last_in_order ss)
last_pushed None ss = refl
last_pushed (Some q) ss = refl

-- the newest value is the last one in order, once the pending one is pushed out
last_flushed : (o : Origin) (h : List Event) → last_in_order (sent o h) ≡ prior o h
    → last_in_order (flushed o h) ≡ newest h
last_flushed o h e = grind (arith, last_pushed, newest_is)

-- the last value in order after one value more, by its two tests
last_of_value : (o : Origin) (p : Point) (h : List Event) (late far : Bool) → last_in_order (sent o h)
    ≡ prior o h → last_in_order (sent_on late far p (flushed o h) (sent o h))
    ≡ cond late (newest h) (cond far (Some p) (prior o h))
last_of_value o p h true far e = last_flushed o h e
last_of_value o p h false true e = refl
last_of_value o p h false false e = e

-- the last value sent in order is the last one marked so among what is sent
pub last_in_order_is : (o : Origin) (h : List Event) → last_in_order (sent o h) ≡ prior o h
last_in_order_is o [] = refl
last_in_order_is o (Tune u ∷ h) =
    ap last_in_order (tune_sends o u h) ∙ last_flushed o h (last_in_order_is o h)
last_in_order_is o (Raw p ∷ h) =
    ap last_in_order (value_sends o p h)
    ∙ last_of_value o p h (is_late p h) (is_far_from (in_force o h) (prior o h) p) (last_in_order_is o h)

-- the newest value is the last one in order, once the pending one is pushed out
pub newest_is_last : (o : Origin) (h : List Event) → last_in_order (flushed o h) ≡ newest h
newest_is_last o h = last_flushed o h (last_in_order_is o h)

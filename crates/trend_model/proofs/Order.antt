-- What is sent in order rises in time.
use Rattle.std.proofs.Common.{◌≡◌, ◌<◌, ◌≤◌, inl, inr, false, List, [], ◌∷◌, ◌++◌, Option, None, Some, refl, sym, ap, subst, arith}
use Rattle.std.proofs.lemmas.Bool.Decides.{nat_tests}
use Rattle.trend_num.specs.{Point}
use Rattle.trend_model.specs.{IsAmong, Event, Raw, Tune, Origin, Sent, InOrder, Late, Tuned, is_late, pending, sent, last_in_order, RisesInTime}
use Rattle.trend_model.specs.State.{pushed_out}
use Rattle.trend_model.proofs.Sent.{same_there, not_both, is_not_after, is_late_newest, flushed, tune_sends, comes_late, goes, waits, happens, newest_is_last}

-- a value sent in order is no late one, and no tuning
pub not_late : {P : Type 0} (x y : Point) → InOrder x ≡ Late y → P
not_late x y e = cc

-- what is sent in order is one value
pub same_in_order : (x y : Point) → InOrder x ≡ InOrder y → x ≡ y
same_in_order x y e = cc

-- one value has one time
pub time_of : (x y : Point) → x ≡ y → x.t ≡ y.t
time_of x y e = ap (λ (z : Point). z.t) e

-- and so has what is sent of it
pub time_of_sent : (x y : Point) → InOrder x ≡ InOrder y → x.t ≡ y.t
time_of_sent x y e = time_of x y (same_in_order x y e)

-- every value sent in order is before p
abbrev pub IsNew : Point → List Sent → Type 0
IsNew p ss = (x : Point) → IsAmong (InOrder x) ss → x.t < p.t

-- a value sent in order is not after the last one
pub not_after_last : (ss : List Sent) → RisesInTime ss → (x : Point) → IsAmong (InOrder x) ss
    → (s : Point) × (last_in_order ss ≡ Some s) × (x.t ≤ s.t)
not_after_last [] rises x there = absurd there
not_after_last (Late y ∷ ss) rises x (inl e) = not_late x y e
not_after_last (Late y ∷ ss) rises x (inr there) = not_after_last ss rises x there
not_after_last (Tuned u ∷ ss) rises x (inl e) = absurd (cc)
not_after_last (Tuned u ∷ ss) rises x (inr there) = not_after_last ss rises x there
not_after_last (InOrder y ∷ ss) rises x (inl e) =
    let at = time_of_sent x y e in (y, refl, omega arith)
not_after_last (InOrder y ∷ ss) rises x (inr there) = let before = rises.0 x there in (y, refl, omega arith)

-- with the last value given
pub not_above : (ss : List Sent) (s x : Point) → RisesInTime ss → last_in_order ss ≡ Some s
    → IsAmong (InOrder x) ss → x.t ≤ s.t
not_above ss s x rises is_last there = grind (arith, not_after_last, time_of, same_there)

-- the last value sent in order was sent
pub last_is_sent : (ss : List Sent) (s : Point) → last_in_order ss ≡ Some s → IsAmong (InOrder s) ss
last_is_sent [] s e = not_both None s e refl
last_is_sent (Late y ∷ ss) s e = inr (last_is_sent ss s e)
last_is_sent (Tuned u ∷ ss) s e = inr (last_is_sent ss s e)
last_is_sent (InOrder y ∷ ss) s e = inl (ap InOrder (same_there (Some y) s y e refl))

-- what was sent is sent once the pending value is pushed out
pub sent_in_flushed : (w : Option Point) (ss : List Sent) (x : Sent) → IsAmong x ss
    → IsAmong x (pushed_out w ++ ss)
sent_in_flushed None ss x there = there
sent_in_flushed (Some q) ss x there = inr there

-- and rises where all that rises
rises_before : (w : Option Point) (ss : List Sent) → RisesInTime (pushed_out w ++ ss) → RisesInTime ss
rises_before None ss rises = rises
rises_before (Some q) ss rises = rises.1

-- a value after the newest one is after it in time
new_by : (n : Option Point) (p s : Point) → is_not_after n p ≡ false → n ≡ Some s → s.t < p.t
new_by None p s after e = not_both None s e refl
new_by (Some q) p s after e =
    let same : q ≡ s = same_there (Some q) q s refl e in
    let below : q.t < p.t = grind (arith, nat_tests) in subst (λ (z : Point). z.t < p.t) same below

-- a value in order is after all that was sent, or waits to be
pub new_after : (o : Origin) (p : Point) (h : List Event) → RisesInTime (flushed o h) → is_late p h ≡ false
    → IsNew p (flushed o h)
new_after o p h rises in_order x there =
    grind (arith, not_after_last, flushed, newest_is_last, new_by, is_late_newest)

-- and so after all that was sent
pub new_sent : (o : Origin) (p : Point) (h : List Event) → RisesInTime (flushed o h) → is_late p h ≡ false
    → IsNew p (sent o h)
new_sent o p h rises in_order x old =
    new_after o p h rises in_order x (sent_in_flushed (pending o h) (sent o h) (InOrder x) old)

-- what is sent in order rises in time, once the pending value is pushed out
pub flushed_rises : (o : Origin) (h : List Event) → RisesInTime (flushed o h)
flushed_rises o [] = tt
flushed_rises o (Tune u ∷ h) = subst RisesInTime (sym (tune_sends o u h)) (flushed_rises o h)
flushed_rises o (Raw p ∷ h) =
    let rises = flushed_rises o h in
    elim (happens o p h) [
      | comes_late late none all ↦ subst RisesInTime (sym all) rises
      | goes in_order none all ↦ subst RisesInTime (sym all) (new_after o p h rises in_order, rises)
      | waits in_order near last there all ↦
          subst RisesInTime (sym all)
          (new_sent o p h rises in_order, rises_before (pending o h) (sent o h) rises)
    ]

-- what is sent in order rises in time
pub sent_rises : (o : Origin) (h : List Event) → RisesInTime (sent o h)
sent_rises o h = rises_before (pending o h) (sent o h) (flushed_rises o h)

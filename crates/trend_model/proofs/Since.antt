-- The values since the hinge: those that the line or the stair to come still covers.
use Rattle.std.proofs.Common.{◌≡◌, ℕ, ◌<◌, ◌≤◌, ◌⊎◌, inl, inr, Bool, true, false, ◌-ℤ◌, List, [], ◌∷◌, unsigned_abs, refl, sym, subst, arith}
use Rattle.std.proofs.Math.Nat.{eq-or-lt_of_le}
use Rattle.trend_num.specs.{Point, Tuning, Within}
use Rattle.trend_model.specs.{IsAmong, Origin, Sent, InOrder, Late, Tuned, RisesInTime, IsNear}
use Rattle.trend_model.proofs.Order.{same_in_order, not_late, time_of, time_of_sent, IsNew}
use Rattle.trend_model.proofs.SentTunings.{force_sent, IsMade, sent_of_made}
use Rattle.trend_model.proofs.Chain.{IsClear, IsSpan, IsSpanNear, same_time, near_left}

-- the last of the values since the hinge, or the hinge
abbrev pub end_of : Point → List Point → Point
end_of a [] = a
end_of a (q ∷ since) = q

-- x, since the hinge a, is near the line to the last value q, or near the stair or passed over
abbrev pub IsFitted : Bool → Point → Point → Point → ℕ → List Point → Type 0
IsFitted false a q x d passed = Within a q x d
IsFitted true a q x d passed = (unsigned_abs (x.v -ℤ a.v) ≤ d) ⊎ IsAmong x passed

-- the values since the hinge a: they were sent under the tuning in force, and are near; what they leave out was
-- passed over
pub record IsSince (o : Origin) (ss : List Sent) (a : Point) (since passed : List Point) : Type 0 where
  pub made : (x : Point) → IsAmong x since → IsMade o.tuning (force_sent o.tuning ss) x ss
  pub after : (x : Point) → IsAmong x since → a.t < x.t
  pub fit : (x : Point) → IsAmong x since
      → IsFitted o.step a (end_of a since) x (force_sent o.tuning ss).comp_dev passed
  pub covers : (x : Point) → IsAmong (InOrder x) ss → a.t < x.t → IsAmong x since ⊎ IsAmong x passed
  pub end_last : (x : Point) → IsAmong (InOrder x) ss → x.t ≤ (end_of a since).t

-- none, where the hinge is the last value sent
pub since_none : (o : Origin) (ss : List Sent) (a : Point) (passed : List Point)
    → ((x : Point) → IsAmong (InOrder x) ss → x.t ≤ a.t) → IsSince o ss a [] passed
since_none o ss a passed last = grind arith

-- what is sent in order before a late value
pub sent_of_late : (x y : Point) (ss : List Sent) → IsAmong (InOrder x) (Late y ∷ ss) → IsAmong (InOrder x) ss
sent_of_late x y ss (inl e) = not_late x y e
sent_of_late x y ss (inr there) = there

-- and before a tuning
pub sent_of_tuned : (x : Point) (u : Tuning) (ss : List Sent) → IsAmong (InOrder x) (Tuned u ∷ ss)
    → IsAmong (InOrder x) ss
sent_of_tuned x u ss (inl e) = absurd (cc)
sent_of_tuned x u ss (inr there) = there

-- a late value leaves them
pub since_late : (o : Origin) (ss : List Sent) (a y : Point) (since passed : List Point)
    → IsSince o ss a since passed → IsSince o (Late y ∷ ss) a since passed
since_late o ss a y since passed i = grind (arith, sent_of_late)

-- p joins those that are left of the old ones, where all fit
pub since_adds : (o : Origin) (ss : List Sent) (a p : Point) (old before since passed : List Point)
    → IsNew p ss → IsAmong (InOrder a) ss → IsSince o ss a old before
    → ((x : Point) → IsAmong x since → IsAmong x old)
    → ((x : Point) → IsAmong x old ⊎ IsAmong x before → IsAmong x since ⊎ IsAmong x passed)
    → ((x : Point) → IsAmong x (p ∷ since) → IsFitted o.step a p x (force_sent o.tuning ss).comp_dev passed)
    → IsSince o (InOrder p ∷ ss) a (p ∷ since) passed
since_adds o ss a p old before since passed new sent_a i left covered fits =
    grind (arith, time_of, same_in_order, time_of_sent)

-- what fits is near, where nothing was passed over
near_of_fit : (step : Bool) (a q x : Point) (d : ℕ) (passed : List Point) → a.t < x.t → IsClear passed a q
    → IsFitted step a q x d passed → IsNear step a q x d
near_of_fit false a q x d passed after clear fit = fit
near_of_fit true a q x d passed after clear fit = λ before. elim fit [
  | inl near ↦ near
  | inr gone ↦ (let beyond = clear x gone after in absurd (omega arith))
]

-- the hinge and each value since it are near the line or the stair to the last one
span_at : (o : Origin) (ss : List Sent) (a q x : Point) (since passed : List Point)
    → IsSince o ss a (q ∷ since) passed → IsClear passed a q → (x ≡ a) ⊎ IsAmong x (q ∷ since)
    → IsSpanNear o ss a q x
span_at o ss a q x since passed i clear (inl e) = record {
  tuning = force_sent o.tuning ss;
  right_made = i.made q (inl refl);
  made = λ after. (let at = time_of x a e in absurd (omega arith));
  near = subst (λ z. IsNear o.step a q z (force_sent o.tuning ss).comp_dev) (sym e)
      (near_left o.step a q (force_sent o.tuning ss).comp_dev);
}
span_at o ss a q x since passed i clear (inr there) = record {
  tuning = force_sent o.tuning ss;
  right_made = i.made q (inl refl);
  made = λ after. i.made x there;
  near = near_of_fit o.step a q x (force_sent o.tuning ss).comp_dev passed (i.after x there) clear
      (i.fit x there);
}

-- each value sent from the hinge to the last value is near, where nothing was passed over
pub last_span : (o : Origin) (ss : List Sent) (a q : Point) (since passed : List Point) → RisesInTime ss
    → IsAmong (InOrder a) ss → IsSince o ss a (q ∷ since) passed → IsSpan o ss passed a q
last_span o ss a q since passed rises sent_a i x there ax xq clear =
    span_at o ss a q x since passed i clear (elim (eq-or-lt_of_le ax) [
      | inl at ↦ inl (same_time ss rises x a there sent_a (sym at))
      | inr after ↦ elim (i.covers x there after) [
        | inl h ↦ inr h
        | inr h ↦ (let beyond = clear x h after in
            let sent_q = sent_of_made o.tuning _ q ss (i.made q (inl refl)) in
            inr (inl (same_time ss rises x q there sent_q (omega arith))))
      ]
    ])

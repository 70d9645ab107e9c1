-- Where a raw value in order is among those that are sent once the pending one is pushed out.
use Rattle.std.proofs.Common.{◌≡◌, ◌<◌, ◌≤◌, inl, inr, ◌-ℤ◌, false, ◌+◌, List, [], ◌∷◌, ◌++◌, Option, None, Some, unsigned_abs, refl, sym, ap, ◌∙◌, subst, arith}
use Rattle.std.proofs.lemmas.Bool.{true≢false}
use Rattle.trend_num.specs.{Point, Tuning}
use Rattle.trend_model.specs.{IsAmong, Event, Raw, Tune, Origin, Sent, InOrder, Late, Tuned, in_force, is_late, is_far_from, prior, pending, sent, last_in_order, IsInOrder, RisesInTime}
use Rattle.trend_model.specs.State.{pushed_out}
use Rattle.trend_model.proofs.Sent.{same_there, not_both, not_far, flushed, tune_sends, comes_late, goes, waits, happens, last_in_order_is}
use Rattle.trend_model.proofs.Order.{same_in_order, not_late, time_of_sent, not_above, last_is_sent, new_after, flushed_rises}
use Rattle.trend_model.proofs.SentTunings.{force_sent, force_is, IsMade, made_more, sent_of_made}
use Rattle.trend_model.proofs.Chain.{same_time, older, not_before}

-- y lies strictly between two sent neighbours, and is near the first of them, as the second is, by the tuning under
-- which the second was sent
pub record IsBetween (o : Origin) (ss : List Sent) (y s z : Point) : Type 0 where
  pub tuning : Tuning
  pub first_sent : IsAmong (InOrder s) ss
  pub second_made : IsMade o.tuning tuning z ss
  pub after : s.t < y.t
  pub before : y.t < z.t
  pub neighbours : (x : Point) → IsAmong (InOrder x) ss → s.t < x.t → z.t ≤ x.t
  pub near : unsigned_abs (y.v -ℤ s.v) ≤ tuning.exc_dev
  pub second_near : unsigned_abs (z.v -ℤ s.v) ≤ tuning.exc_dev

-- y was sent, or lies between two that were
pub data IsPlaced (o : Origin) (ss : List Sent) (y : Point) : Type 0 where
  was_sent : IsAmong (InOrder y) ss → IsPlaced o ss y
  lies_between : (s z : Point) → IsBetween o ss y s z → IsPlaced o ss y

-- ---- near values

-- what waits is near the last value sent, and comes soon after it
pub record IsNearLast (u : Tuning) (last : Option Point) (p : Point) : Type 0 where
  pub first : Point
  pub is_last : last ≡ Some first
  pub near : unsigned_abs (p.v -ℤ first.v) ≤ u.exc_dev
  pub soon : p.t < first.t + u.exc_max

-- a value that is not far from the last one is near it
pub near_last : (u : Tuning) (last : Option Point) (p : Point) → is_far_from u last p ≡ false
    → IsNearLast u last p
near_last u None p e = absurd (cc)
near_last u (Some s) p e =
    let n = not_far u s p e in record { first = s; is_last = refl; near = n.0; soon = n.1 }

-- and so is the pending value
pub pending_near : (o : Origin) (h : List Event) (q : Point) → pending o h ≡ Some q
    → IsNearLast (in_force o h) (prior o h) q
pending_near o [] q waiting = not_both None q waiting refl
pending_near o (Tune u ∷ h) q waiting = not_both None q waiting refl
pending_near o (Raw p ∷ h) q waiting =
    elim (happens o p h) [
      | comes_late late none all ↦ not_both (pending o (Raw p ∷ h)) q waiting none
      | goes in_order none all ↦ not_both (pending o (Raw p ∷ h)) q waiting none
      | waits in_order near last there all ↦
          subst (λ z. IsNearLast (in_force o h) (prior o (Raw p ∷ h)) z)
          (same_there (pending o (Raw p ∷ h)) p q there waiting)
          (subst (λ s. IsNearLast (in_force o h) s p) (sym last)
          (near_last (in_force o h) (prior o h) p near))
    ]

-- ---- one thing more that is sent

-- what lies between two neighbours continues to, when one thing more is sent
between_more : (o : Origin) (e : Sent) (ss : List Sent) (y s z : Point) → RisesInTime (e ∷ ss)
    → IsBetween o ss y s z → IsBetween o (e ∷ ss) y s z
between_more o e ss y s z rises b = grind (arith, made_more, not_late, time_of_sent, sent_of_made)

-- what has its place keeps it
placed_more : (o : Origin) (e : Sent) (ss : List Sent) (y : Point) → RisesInTime (e ∷ ss) → IsPlaced o ss y
    → IsPlaced o (e ∷ ss) y
placed_more o e ss y rises placed = elim placed [
  | was_sent there ↦ was_sent (inr there)
  | lies_between s z b ↦ lies_between s z (between_more o e ss y s z rises b)
]

-- ---- a value that waits in place of another

-- the last value sent, s, and the pending one, q
pub record IsLast (ss : List Sent) (s q : Point) : Type 0 where
  pub rises : RisesInTime (InOrder q ∷ ss)
  pub is_last : last_in_order ss ≡ Some s

-- the value before the pending one is s
pub first_is_last : (o : Origin) (ss : List Sent) (y s q first : Point) → IsLast ss s q
    → IsBetween o (InOrder q ∷ ss) y first q → first ≡ s
first_is_last o ss y s q first i b =
    let after = b.after in
    let before = b.before in
    let sent_s = last_is_sent ss s i.is_last in
    let waits_after = i.rises.0 s sent_s in
    elim b.first_sent [
      | inl e ↦ (let at = time_of_sent first q e in absurd (omega arith))
      | inr old ↦
          (let below = not_above ss s first i.rises.1 i.is_last old in
          let above : s.t ≤ first.t = not_before first.t s.t
          (λ less. (let beyond = b.neighbours s (inr sent_s) less in absurd (omega arith))) in
          same_time ss i.rises.1 first s old sent_s (omega arith))
    ]

-- p waits in place of q: y, near s and not after q, lies between s and p
between_waiting : (o : Origin) (u : Tuning) (ss : List Sent) (y s q p : Point) → IsLast ss s q → q.t < p.t
    → u ≡ force_sent o.tuning ss → s.t < y.t → y.t ≤ q.t → unsigned_abs (y.v -ℤ s.v) ≤ u.exc_dev
    → unsigned_abs (p.v -ℤ s.v) ≤ u.exc_dev → IsBetween o (InOrder p ∷ ss) y s p
between_waiting o u ss y s q p i qp force after before near second = record {
  tuning = u;
  first_sent = inr (last_is_sent ss s i.is_last);
  second_made = inl (refl, force);
  after = after;
  before = omega arith;
  neighbours = grind (arith, time_of_sent, not_above);
  near = near;
  second_near = second;
}

-- what lay before the pending value q lies so before p, and what lay between values sent continues to
between_moves : (o : Origin) (u : Tuning) (ss : List Sent) (y s q p first z : Point) → IsLast ss s q
    → RisesInTime (InOrder p ∷ ss) → q.t < p.t → u ≡ force_sent o.tuning ss
    → unsigned_abs (p.v -ℤ s.v) ≤ u.exc_dev → (b : IsBetween o (InOrder q ∷ ss) y first z)
    → IsMade o.tuning b.tuning z (InOrder q ∷ ss) → IsPlaced o (InOrder p ∷ ss) y
between_moves o u ss y s q p first z i rises qp force second b (inl here) =
    let at_end : IsBetween o (InOrder q ∷ ss) y first q =
    subst (λ v. IsBetween o (InOrder q ∷ ss) y first v) here.0 b in
    let same : first ≡ s = first_is_last o ss y s q first i at_end in
    let tuning : b.tuning ≡ u = here.1 ∙ sym force in
    let near : unsigned_abs (y.v -ℤ s.v) ≤ u.exc_dev =
    subst (λ (v : Point). unsigned_abs (y.v -ℤ v.v) ≤ u.exc_dev) same
    (subst (λ (t : Tuning). unsigned_abs (y.v -ℤ first.v) ≤ t.exc_dev) tuning b.near) in
    let after : s.t < y.t = subst (λ (v : Point). v.t < y.t) same b.after in
    let before : y.t < q.t = at_end.before in
    lies_between s p (between_waiting o u ss y s q p i qp force after (omega arith) near second)
between_moves o u ss y s q p first z i rises qp force second b (inr made) =
    let sent_z = sent_of_made o.tuning b.tuning z ss made in
    let after = b.after in
    let before = b.before in
    lies_between first z (between_more o (InOrder p) ss y first z rises (record {
      tuning = b.tuning;
      first_sent = older (InOrder q) first z ss i.rises sent_z (omega arith) b.first_sent;
      second_made = made;
      after = after;
      before = before;
      neighbours = λ x there. b.neighbours x (inr there);
      near = b.near;
      second_near = b.second_near;
    }))

-- what had its place when q was pending has one when p is
placed_waiting : (o : Origin) (u : Tuning) (ss : List Sent) (y s q p : Point) → IsLast ss s q
    → RisesInTime (InOrder p ∷ ss) → q.t < p.t → u ≡ force_sent o.tuning ss
    → unsigned_abs (q.v -ℤ s.v) ≤ u.exc_dev → unsigned_abs (p.v -ℤ s.v) ≤ u.exc_dev
    → IsPlaced o (InOrder q ∷ ss) y → IsPlaced o (InOrder p ∷ ss) y
placed_waiting o u ss y s q p i rises qp force near second placed = elim placed [
  | was_sent there ↦ elim there [
    | inl e ↦ subst (λ v. IsPlaced o (InOrder p ∷ ss) v) (sym (same_in_order y q e))
        (lies_between s p (between_waiting o u ss q s q p i qp force
        (i.rises.0 s (last_is_sent ss s i.is_last)) (omega arith) near second))
    | inr old ↦ was_sent (inr old)
  ]
  | lies_between first z b ↦ between_moves o u ss y s q p first z i rises qp force second b b.second_made
]

-- ---- the place of each raw value

-- p waits, and what was pending before it, if anything was, does not
waits_on : (o : Origin) (h : List Event) (p y : Point) (w : Option Point) → pending o h ≡ w
    → is_late p h ≡ false → RisesInTime (InOrder p ∷ sent o h) → IsNearLast (in_force o h) (prior o h) p
    → IsPlaced o (pushed_out w ++ sent o h) y → IsPlaced o (InOrder p ∷ sent o h) y
waits_on o h p y None waiting in_order rises near placed = placed_more o (InOrder p) (sent o h) y rises placed
waits_on o h p y (Some q) waiting in_order rises near placed =
    let s = near.first in
    let before = pending_near o h q waiting in
    let same : before.first ≡ s = same_there (prior o h) before.first s before.is_last near.is_last in
    let pushed : flushed o h ≡ InOrder q ∷ sent o h = ap (λ v. pushed_out v ++ sent o h) waiting in
    let last : IsLast (sent o h) s q = record {
      rises = subst RisesInTime pushed (flushed_rises o h);
      is_last = last_in_order_is o h ∙ near.is_last;
    } in
    placed_waiting o (in_force o h) (sent o h) y s q p last rises
    (new_after o p h (flushed_rises o h) in_order q (subst (IsAmong (InOrder q)) (sym pushed) (inl refl)))
    (sym (force_is o h))
    (subst (λ (v : Point). unsigned_abs (q.v -ℤ v.v) ≤ (in_force o h).exc_dev) same before.near)
    near.near placed

-- what one more value makes of the place of an older one
placed_on : (o : Origin) (p y : Point) (h : List Event) → IsPlaced o (flushed o h) y
    → IsPlaced o (flushed o (Raw p ∷ h)) y
placed_on o p y h placed =
    let rises = flushed_rises o (Raw p ∷ h) in
    elim (happens o p h) [
      | comes_late late none all ↦
          subst (λ ss. IsPlaced o ss y) (sym all)
          (placed_more o (Late p) (flushed o h) y (subst RisesInTime all rises) placed)
      | goes in_order none all ↦
          subst (λ ss. IsPlaced o ss y) (sym all)
          (placed_more o (InOrder p) (flushed o h) y (subst RisesInTime all rises) placed)
      | waits in_order near last there all ↦
          subst (λ ss. IsPlaced o ss y) (sym all)
          (waits_on o h p y (pending o h) refl in_order (subst RisesInTime all rises)
          (near_last (in_force o h) (prior o h) p near) placed)
    ]

-- a value in order is sent, or waits
own_place : (o : Origin) (p : Point) (h : List Event) → is_late p h ≡ false
    → IsAmong (InOrder p) (flushed o (Raw p ∷ h))
own_place o p h in_order = grind (arith, happens, comes_late, true≢false, goes, waits)

-- each raw value in order is sent, or lies between two neighbours that are
pub placed : (o : Origin) (h : List Event) (y : Point) → IsInOrder y h → IsPlaced o (flushed o h) y
placed o [] y there = absurd there
placed o (Tune u ∷ h) y there =
    subst (λ l. IsPlaced o l y) (sym (tune_sends o u h))
    (placed_more o (Tuned u) (flushed o h) y (flushed_rises o h) (placed o h y there))
placed o (Raw p ∷ h) y (inl here) =
    subst (λ v. IsPlaced o (flushed o (Raw p ∷ h)) v) (sym here.0) (was_sent (own_place o p h here.1))
placed o (Raw p ∷ h) y (inr there) = placed_on o p y h (placed o h y there)

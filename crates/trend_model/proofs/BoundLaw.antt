-- The archive's promise, from the walk, the content and the place of each raw value.
use Rattle.std.proofs.Common.{◌≡◌, ℕ, ◌*◌, ◌<◌, ◌≤◌, inl, inr, ℤ, ◌-ℤ◌, Bool, true, false, List, ◌∷◌, ◌++◌, Option, None, Some, unsigned_abs, refl, sym, ◌∙◌, subst, arith}
use Rattle.std.proofs.lemmas.Int.{ints}
use Rattle.trend_num.specs.{Point, Rec, Tuning}
use Rattle.trend_num.specs.declared.reading.Reading.TheVariants.{Exact}
use Rattle.trend_model.specs.{closed_by, closed_points, listed, read_at, IsAmong, Event, Origin, InOrder, in_force, tuning_of_value, prior, pending, sent, IsInOrder, late_at, IsCleanSpan, IsNear, raw_deviation, IsBounded, RisesInTime}
use Rattle.trend_model.proofs.ContentList.{content_closed, content_listed}
use Rattle.trend_model.proofs.ReadLaw.{late_read}
use Rattle.trend_model.specs.Walk.{records, passed, held, walked}
use Rattle.trend_model.specs.State.{pushed_out}
use Rattle.trend_model.proofs.Near.{within_more, within_between}
use Rattle.trend_model.proofs.Sent.{same_there, flushed, last_in_order_is}
use Rattle.trend_model.proofs.Order.{same_in_order, not_above, last_is_sent, sent_in_flushed, sent_rises, flushed_rises}
use Rattle.trend_model.proofs.Walks.{held_is_prior}
use Rattle.trend_model.proofs.SentTunings.{IsMade, force_is, made_at, made_at_flushed, sent_of_made}
use Rattle.trend_model.proofs.Chain.{NoneKept, IsSpanNear, not_before, older}
use Rattle.trend_model.proofs.WalkLaw.{IsWalk, walk_holds}
use Rattle.trend_model.proofs.ContentLaw.{IsEnd, closed_there, closed_point, kept_was_sent, span_walked}
use Rattle.trend_model.proofs.RawLaw.{IsLast, IsBetween, IsPlaced, was_sent, lies_between, placed, pending_near, first_is_last}

-- a clean span of a history
abbrev IsCleanOf : Origin → List Event → Point → Point → Type 0
IsCleanOf o h l r = IsCleanSpan (records o h) (held o h) (passed o h) l r

-- the walk of a history holds its invariant
history_walks : (o : Origin) (h : List Event) → IsWalk o (sent o h) (walked o h)
history_walks o h = walk_holds o (sent o h) (sent_rises o h)

-- the left end of a clean span is kept or held
left_end : (o : Origin) (h : List Event) (l r : Point) → IsCleanOf o h l r → IsEnd l (records o h) (held o h)
left_end o h l r c = closed_point (records o h) (held o h) l c.left c.left_in_order

-- and so is its right end
right_end : (o : Origin) (h : List Event) (l r : Point) → IsCleanOf o h l r → IsEnd r (records o h) (held o h)
right_end o h l r c = closed_point (records o h) (held o h) r c.right c.right_in_order

-- the held point was sent
held_is_sent : (o : Origin) (h : List Event) (s : Point) → held o h ≡ Some s → IsAmong (InOrder s) (sent o h)
held_is_sent o h s e = last_is_sent (sent o h) s (last_in_order_is o h ∙ sym (held_is_prior o h) ∙ e)

-- both ends were sent
end_sent : (o : Origin) (h : List Event) (l : Point) → IsEnd l (records o h) (held o h)
    → IsAmong (InOrder l) (sent o h)
end_sent o h l (inl k) =
    let w = walked o h in
    kept_was_sent o (sent o h) w.records w.hinge w.since w.passed (history_walks o h).walked l k
end_sent o h l (inr e) = held_is_sent o h l e

-- a value sent in order on a clean span is near
span_near : (o : Origin) (h : List Event) (l r x : Point) → IsCleanOf o h l r → IsAmong (InOrder x) (sent o h)
    → l.t ≤ x.t → x.t ≤ r.t → IsSpanNear o (sent o h) l r x
span_near o h l r x c there lx xr =
    let w = walked o h in
    span_walked o (sent o h) w.records w.hinge w.since w.passed (sent_rises o h) (history_walks o h).walked
    l r (left_end o h l r c) (right_end o h l r c) c.rises none_kept x there lx xr c.none_passed
  where
    none_kept : NoneKept (records o h) l r
    none_kept k kept_k lk =
        not_before k.t r.t (λ kr. closed_there k (records o h) (held o h) kept_k (c.neighbours k.t lk kr))

-- by the tuning of its right end
sent_near : (o : Origin) (h : List Event) (l r x : Point) → IsCleanOf o h l r → IsAmong (InOrder x) (sent o h)
    → l.t ≤ x.t → x.t ≤ r.t → IsNear o.step l r x (tuning_of_value o h r.t).comp_dev
sent_near o h l r x c there lx xr =
    let n = span_near o h l r x c there lx xr in
    subst (λ (u : Tuning). IsNear o.step l r x u.comp_dev) (sym (made_at o n.tuning r h n.right_made)) n.near

-- what was sent on a span was made under the tuning of its right end
made_on_span : (o : Origin) (h : List Event) (l r x : Point) → IsCleanOf o h l r
    → IsAmong (InOrder x) (sent o h) → l.t < x.t → x.t ≤ r.t → tuning_of_value o h x.t ≡ tuning_of_value o h r.t
made_on_span o h l r x c there lx xr =
    let n = span_near o h l r x c there (omega arith) xr in
    made_at o n.tuning x h (n.made lx) ∙ sym (made_at o n.tuning r h n.right_made)

-- what is sent once the pending value is pushed out, and is not after what was sent, was sent
older_flushed : (o : Origin) (h : List Event) (w : Option Point) → pending o h ≡ w → (x r : Point)
    → IsAmong (InOrder r) (sent o h) → x.t ≤ r.t → IsAmong (InOrder x) (pushed_out w ++ sent o h)
    → IsAmong (InOrder x) (sent o h)
older_flushed o h None waiting x r sent_r xr there = there
older_flushed o h (Some q) waiting x r sent_r xr there =
    older (InOrder q) x r (sent o h)
    (subst (λ v. RisesInTime (pushed_out v ++ sent o h)) waiting (flushed_rises o h)) sent_r xr there

-- ---- raw values

-- near by CompDev is near by the raw deviation
near_more : (step : Bool) (l r x : Point) (u : Tuning) → IsNear step l r x u.comp_dev
    → IsNear step l r x (raw_deviation step u)
near_more false l r x u near = within_more l r x u.comp_dev (2 * u.exc_dev) near
near_more true l r x u near = λ before. (let h = near before in omega arith)

-- y between two that are near, and within ExcDev of the first as the second is
near_between : (step : Bool) (l r s y z : Point) (u : Tuning) → IsNear step l r s u.comp_dev
    → IsNear step l r z u.comp_dev → l.t ≤ s.t → s.t ≤ y.t → y.t ≤ z.t → unsigned_abs (y.v -ℤ s.v) ≤ u.exc_dev
    → unsigned_abs (z.v -ℤ s.v) ≤ u.exc_dev → IsNear step l r y (raw_deviation step u)
near_between false l r s y z u near_s near_z ls sy yz ys zs =
    within_between l r s y z u.comp_dev u.exc_dev near_s near_z ls sy yz ys zs
near_between true l r s y z u near_s near_z ls sy yz ys zs =
    λ before. (let h = near_s (omega arith) in omega (arith, ints))

-- a raw value between two neighbours that were sent is near a clean span
between_near : (o : Origin) (h : List Event) (l r y s z : Point) → IsCleanOf o h l r → l.t ≤ y.t → y.t ≤ r.t
    → IsBetween o (flushed o h) y s z → IsNear o.step l r y (raw_deviation o.step (tuning_of_value o h r.t))
between_near o h l r y s z c ly yr b =
    let after = b.after in
    let before = b.before in
    let sent_l = end_sent o h l (left_end o h l r c) in
    let sent_r = end_sent o h r (right_end o h l r c) in
    let zr : z.t ≤ r.t = b.neighbours r (in_flushed r sent_r) (omega arith) in
    let ls : l.t ≤ s.t = not_before s.t l.t
    (λ sl. (let beyond = b.neighbours l (in_flushed l sent_l) sl in absurd (omega arith))) in
    let sent_s = older_flushed o h (pending o h) refl s r sent_r (omega arith) b.first_sent in
    let flushed_z = sent_of_made o.tuning b.tuning z (flushed o h) b.second_made in
    let sent_z = older_flushed o h (pending o h) refl z r sent_r zr flushed_z in
    let came : tuning_of_value o h z.t ≡ b.tuning = made_at_flushed o b.tuning z h b.second_made in
    let same : b.tuning ≡ tuning_of_value o h r.t = sym came ∙ made_on_span o h l r z c sent_z (omega arith) zr in
    near_between o.step l r s y z (tuning_of_value o h r.t) (sent_near o h l r s c sent_s ls (omega arith))
    (sent_near o h l r z c sent_z (omega arith) zr) ls (omega arith) (omega arith)
    (subst (λ (u : Tuning). unsigned_abs (y.v -ℤ s.v) ≤ u.exc_dev) same b.near)
    (subst (λ (u : Tuning). unsigned_abs (z.v -ℤ s.v) ≤ u.exc_dev) same b.second_near)
  where
    in_flushed : (x : Point) → IsAmong (InOrder x) (sent o h) → IsAmong (InOrder x) (flushed o h)
    in_flushed x there = sent_in_flushed (pending o h) (sent o h) (InOrder x) there

-- each raw value in order is
pub raw_near : (o : Origin) (h : List Event) (l r y : Point) → IsCleanOf o h l r → IsInOrder y h → l.t ≤ y.t
    → y.t ≤ r.t → IsNear o.step l r y (raw_deviation o.step (tuning_of_value o h r.t))
raw_near o h l r y c there ly yr = elim (placed o h y there) [
  | was_sent s ↦
      (let sent_y = older_flushed o h (pending o h) refl y r (end_sent o h r (right_end o h l r c)) yr s in
      near_more o.step l r y (tuning_of_value o h r.t) (sent_near o h l r y c sent_y ly yr))
  | lies_between s z b ↦ between_near o h l r y s z c ly yr b
]

-- ---- what came after the held point

-- what is after the last value sent was not sent
none_after : (o : Origin) (h : List Event) (s x : Point) → prior o h ≡ Some s → IsAmong (InOrder x) (sent o h)
    → x.t ≤ s.t
none_after o h s x last there = not_above (sent o h) s x (sent_rises o h) (last_in_order_is o h ∙ last) there

-- a value between two neighbours that is after it lies before the pending one, and so near it
before_pending : (o : Origin) (h : List Event) (s q y first z : Point) → prior o h ≡ Some s
    → IsLast (sent o h) s q → s.t < y.t → (b : IsBetween o (InOrder q ∷ sent o h) y first z)
    → IsMade o.tuning b.tuning z (InOrder q ∷ sent o h) → unsigned_abs (y.v -ℤ s.v) ≤ (in_force o h).exc_dev
before_pending o h s q y first z last i sy b (inl here) =
    let at_end = subst (λ v. IsBetween o (InOrder q ∷ sent o h) y first v) here.0 b in
    let same = first_is_last o (sent o h) y s q first i at_end in
    subst (λ (v : Point). unsigned_abs (y.v -ℤ v.v) ≤ (in_force o h).exc_dev) same
    (subst (λ (u : Tuning). unsigned_abs (y.v -ℤ first.v) ≤ u.exc_dev) (here.1 ∙ force_is o h) b.near)
before_pending o h s q y first z last i sy b (inr made) =
    let below = none_after o h s z last (sent_of_made o.tuning b.tuning z (sent o h) made) in
    let before = b.before in absurd (omega arith)

-- each raw value after it is near it, with a pending value or without
after_last : (o : Origin) (h : List Event) (s y : Point) (w : Option Point) → prior o h ≡ Some s
    → pending o h ≡ w → s.t < y.t → IsPlaced o (pushed_out w ++ sent o h) y
    → unsigned_abs (y.v -ℤ s.v) ≤ (in_force o h).exc_dev
after_last o h s y None last waiting sy there = elim there [
  | was_sent old ↦ (let below = none_after o h s y last old in absurd (omega arith))
  | lies_between first z b ↦
      (let below = none_after o h s z last (sent_of_made o.tuning b.tuning z (sent o h) b.second_made) in
      let before = b.before in absurd (omega arith))
]
after_last o h s y (Some q) last waiting sy there =
    let i : IsLast (sent o h) s q = record {
      rises = subst (λ v. RisesInTime (pushed_out v ++ sent o h)) waiting (flushed_rises o h);
      is_last = last_in_order_is o h ∙ last;
    } in
    elim there [
      | was_sent old ↦ elim old [
        | inl e ↦
            (let n = pending_near o h q waiting in
            subst (λ (v : Point). unsigned_abs (v.v -ℤ s.v) ≤ (in_force o h).exc_dev)
            (sym (same_in_order y q e))
            (subst (λ (v : Point). unsigned_abs (q.v -ℤ v.v) ≤ (in_force o h).exc_dev)
            (same_there (prior o h) n.first s n.is_last last) n.near))
        | inr older_one ↦ (let below = none_after o h s y last older_one in absurd (omega arith))
      ]
      | lies_between first z b ↦ before_pending o h s q y first z last i sy b b.second_made
    ]

-- what came after the held point is near it
pub newest_near : (o : Origin) (h : List Event) (s y : Point) → held o h ≡ Some s → IsInOrder y h → s.t < y.t
    → unsigned_abs (y.v -ℤ s.v) ≤ (in_force o h).exc_dev
newest_near o h s y holds there sy =
    after_last o h s y (pending o h) (sym (held_is_prior o h) ∙ holds) refl sy (placed o h y there)

-- at a time with Late records a read is exact, with the value of the last one
late_exact : (step : Bool) (rs : List Rec) (q : Option Point) (t : ℕ) (v : ℤ) → late_at rs t ≡ Some v
    → read_at step (closed_points rs q) t ≡ Exact v
late_exact step rs q t v e =
    late_read rs (closed_by q (listed rs)) q step t v (content_closed rs (listed rs) q (content_listed rs)) e

-- the promise
pub bounded : (o : Origin) (h : List Event) → IsBounded o h
bounded o h = grind (arith, sent_near, raw_near, newest_near, late_exact)

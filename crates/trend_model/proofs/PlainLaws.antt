-- Laws that tie the definitions to plain words: tunings that send all, or are exact.
use Rattle.std.proofs.Common.{◌≡◌, ◌≤◌, Bool, true, false, List, [], ◌∷◌, map, None, sym, refl, ap, ◌∙◌, subst, arith}
use Rattle.std.proofs.lemmas.Bool.{true≢false}
use Rattle.trend_num.specs.{Point, Tuning}
use Rattle.trend_model.specs.{Each, Event, Raw, Tune, Origin, InOrder, Tuned, in_force, is_late, prior, pending, sent, tuning_of_value, IsInOrder, IsCleanSpan, IsNear, raw_deviation, AllInOrder, sent_plainly, tunings}
use Rattle.trend_model.specs.Walk.{records, held, passed}
use Rattle.trend_model.proofs.Sent.{flushed, tune_sends, comes_late, goes, waits, happens, last_in_order_is}
use Rattle.trend_model.proofs.Order.{last_is_sent, new_sent, flushed_rises}
use Rattle.trend_model.proofs.RawLaw.{near_last}
use Rattle.trend_model.proofs.BoundLaw.{raw_near}

-- ---- no wait

-- what holds of each tuning holds of that in force
force_each : (P : Tuning → Type 0) (o : Origin) (h : List Event) → Each P (tunings o h) → P (in_force o h)
force_each P o [] each = each.0
force_each P o (Tune u ∷ h) each = each.0
force_each P o (Raw p ∷ h) each = force_each P o h each

-- each event is sent as it is, and nothing waits
record IsPlain (o : Origin) (h : List Event) : Type 0 where
  sends : flushed o h ≡ map sent_plainly h
  none : pending o h ≡ None

-- with ExcMax 0 no value in order waits
never_waits : (o : Origin) (p : Point) (h : List Event) → (in_force o h).exc_max ≡ 0 → is_late p h ≡ false
    → IsPlain o h → IsPlain o (Raw p ∷ h)
never_waits o p h at_once in_order i =
    elim (happens o p h) [
      | comes_late late none all ↦ absurd (true≢false (sym late ∙ in_order))
      | goes _ none all ↦ record { sends = all ∙ ap (λ ss. InOrder p ∷ ss) i.sends; none = none }
      | waits _ near last there all ↦
          (let s = near_last (in_force o h) (prior o h) p near in
          let sent_s = last_is_sent (sent o h) s.first (last_in_order_is o h ∙ s.is_last) in
          let after = new_sent o p h (flushed_rises o h) in_order s.first sent_s in
          let soon = s.soon in absurd (omega arith))
    ]

-- nor does any value of a history in rising time
plain : (o : Origin) (h : List Event) → Each (λ (u : Tuning). u.exc_max ≡ 0) (tunings o h) → AllInOrder h
    → IsPlain o h
plain o [] each rises = record { sends = refl; none = refl }
plain o (Tune u ∷ h) each rises = record {
  sends = tune_sends o u h ∙ ap (λ ss. Tuned u ∷ ss) (plain o h each.1 rises).sends;
  none = refl;
}
plain o (Raw p ∷ h) each rises =
    never_waits o p h (force_each (λ (u : Tuning). u.exc_max ≡ 0) o h each) rises.0 (plain o h each rises.1)

-- ExcMax 0 sends each event of a history in rising time
pub sends_all : (o : Origin) (h : List Event) → Each (λ (u : Tuning). u.exc_max ≡ 0) (tunings o h)
    → AllInOrder h → sent o h ≡ map sent_plainly h
sends_all o h each rises = grind (arith, plain)

-- ---- no deviation

-- without deviations a raw value deviates by nothing
no_deviation : (step : Bool) (u : Tuning) → u.exc_dev ≡ 0 → u.comp_dev ≡ 0 → raw_deviation step u ≡ 0
no_deviation false u exc comp = omega arith
no_deviation true u exc comp = omega arith

-- without deviations each value in order of a clean span is on its line or its stair
pub on_line : (o : Origin) (h : List Event) (l r y : Point) → (tuning_of_value o h r.t).exc_dev ≡ 0
    → (tuning_of_value o h r.t).comp_dev ≡ 0 → IsCleanSpan (records o h) (held o h) (passed o h) l r → IsInOrder y h
    → l.t ≤ y.t → y.t ≤ r.t → IsNear o.step l r y 0
on_line o h l r y exc comp span there ly yr =
    subst (IsNear o.step l r y) (no_deviation o.step (tuning_of_value o h r.t) exc comp)
    (raw_near o h l r y span there ly yr)

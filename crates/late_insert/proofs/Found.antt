-- The record that is at a time in a rising list, and what the list reads late there.
use Rattle.std.proofs.Common.{◌≡◌, ℕ, ◌<◌, inl, inr, ℤ, Bool, true, false, cond, List, [], ◌∷◌, Option, None, Some, nat_eq, refl, subst, ◌∙◌, arith}
use Rattle.std.specs.Option.{option_or}
use Rattle.std.proofs.lemmas.List.Elements.{All-head, All-tail}
use Rattle.std.proofs.lemmas.Bool.{cases_eq, ne_eqb, eq-eqb}
use Rattle.trend_num.specs.{Rec}
use Rattle.trend_model.specs.{is_late_record, late_at, IsRising}
use Rattle.trend_model.proofs.Placing.{time, AllAfter, rising_head, rising_tail}

-- the record at a time
abbrev pub found : List Rec → ℕ → Option Rec
found [] t = None
found (x ∷ xs) t = cond (nat_eq (time x) t) (Some x) (found xs t)

-- its value, where it is Late
abbrev pub late_found : Option Rec → Option ℤ
late_found None = None
late_found (Some x) = cond (is_late_record x.kind) (Some x.point.v) None

-- nothing is late at a time that is before all
none_late : (l : List Rec) (t : ℕ) → AllAfter t l → late_at l t ≡ None
none_late [] t after = refl
none_late (x ∷ xs) t after =
    let head : t < time x = All-head (λ y. t < time y) x xs after in
    let other : nat_eq (time x) t ≡ false = ne_eqb (time x) t (omega arith) in
    rw (none_late xs t (All-tail (λ y. t < time y) x xs after), other) (both_none (is_late_record x.kind))
  where
    both_none : (b : Bool) → cond {A = Option ℤ} b None None ≡ None
    both_none true = refl
    both_none false = refl

-- a rising list reads late as the record that is found
pub late_is : (l : List Rec) → IsRising l → (t : ℕ) → late_at l t ≡ late_found (found l t)
late_is [] rises t = refl
late_is (x ∷ xs) rises t =
    elim (cases_eq (time x) t) [
      | inl same ↦
          let rest = none_late xs t (subst (λ u. AllAfter u xs) same (rising_head x xs rises)) in
          rw (rest, eq-eqb (time x) t same) refl
      | inr other ↦
          rw (ne_eqb (time x) t other) (last_none (is_late_record x.kind) (late_at xs t)
          ∙ late_is xs (rising_tail x xs rises) t)
    ]
  where
    last_none : (b : Bool) (a : Option ℤ) → option_or a (cond b None None) ≡ a
    last_none b (Some v) = refl
    last_none true None = refl
    last_none false None = refl

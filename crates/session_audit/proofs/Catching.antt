-- Rows of a worker that are found one after another in the order of its file.
use Rattle.std.proofs.Common.{◌≡◌, ◌≢◌, ℕ, ◌<◌, ◌≤◌, inl, inr, true, false, nat_eq, nat_le, List, length, get_or, Option, None, Some, is_some, refl, sym, ap, ◌∙◌, arith}
use Rattle.std.proofs.lemmas.Bool.{cases_eq, cases_lt, false≢true}
use Rattle.std.proofs.lemmas.Bool.Decides.{nat_tests}
use Rattle.std.proofs.lemmas.List.{take_all}
use Rattle.plant_status.specs.{Seen}
use Rattle.session_audit.specs.{Item, IsCaughtUp, Reached, found, lacks, next_due, place_at}
use Rattle.session_audit.specs.Agendas.{IsNext, due, due_at, seen_at}
use Rattle.session_audit.proofs.Walking.{due_passed}

-- whether a row lacks, by what it is
pub lacks_some : (p : Reached) (i : ℕ) (item : Item) → get_or p.items i None ≡ Some item
    → lacks p i ≡ nat_le (place_at p item.unit) i
lacks_some p i item is = rw is refl

-- a row that is due somewhere is an item of that unit
item_due : (unit i : ℕ) (items : List (Option Item)) (o : Option Item) → get_or items i None ≡ o
    → due_at unit items i ≢ None → (item : Item) × (get_or items i None ≡ Some item) × (item.unit ≡ unit)
item_due unit i items None is some = absurd (some (ap (seen_at unit) is))
item_due unit i items (Some item) is some = elim (cases_eq item.unit unit) [
  | inl same ↦ (item, is, same)
  | inr differ ↦ absurd (some (ap (seen_at unit) is ∙ other differ))
]
  where
    other : item.unit ≢ unit → seen_at unit (Some item) ≡ None
    other differ = (let test : nat_eq item.unit unit ≡ false = grind (arith, nat_tests, differ) in rw test refl)

-- ---- a row that lacks

-- where none of the rows before it lacks, it is the one that is due next at its unit
pub caught_here : (p : Reached) (i : ℕ) (item : Item) → IsCaughtUp i p → i < length p.items
    → get_or p.items i None ≡ Some item → lacks p i ≡ true
    → IsNext item.unit p.items (place_at p item.unit) (place_at p item.unit) → place_at p item.unit ≡ i
caught_here p i item caught within is missing next =
    let at = place_at p item.unit in
    let upto : nat_le at i ≡ true = sym (lacks_some p i item is) ∙ missing in
    elim (cases_lt at i) [
      | inl before ↦
          let some = next.there (omega (arith, before, within)) in
          let other = item_due item.unit at p.items (get_or p.items at None) refl (λ none.
          false≢true (sym (ap is_some none) ∙ some)) in
          let lack = lacks_some p at other.0 other.1
          ∙ (ap (λ u. nat_le (place_at p u) at) other.2 ∙ le_self at) in
          absurd (false≢true (sym (caught at before) ∙ lack))
      | inr behind ↦ grind (arith, nat_tests, upto, behind)
    ]
  where
    le_self : (n : ℕ) → nat_le n n ≡ true
    le_self n = grind (arith, nat_tests)

-- and this is what it leaves
pub caught_due : (p : Reached) (i : ℕ) (item : Item) → get_or p.items i None ≡ Some item → place_at p item.unit ≡ i
    → next_due p item.unit ≡ Some item.seen
caught_due p i item is at =
    ap (due_at item.unit p.items) at ∙ (ap (seen_at item.unit) is ∙ rw (same item.unit) refl)
  where
    same : (n : ℕ) → nat_eq n n ≡ true
    same n = grind (arith, nat_tests)

-- ---- at the end

-- where no row lacks, all that are due at a unit were found there
pub caught_whole : (p : Reached) (unit : ℕ) → IsCaughtUp (length p.items) p → found p unit ≡ due unit p.items
caught_whole p unit caught = elim (cases_lt (length p.items) (place_at p unit)) [
  | inl behind ↦ ap (due unit) (take_all (place_at p unit) p.items (omega (arith, behind)))
  | inr upto ↦ sym (due_passed unit p.items (place_at p unit) (length p.items) (record {
    order = omega (arith, upto);
    within = omega arith;
    none_between = λ i from below. none i from below (due_at unit p.items i) refl;
    there = λ below. absurd (omega (arith, below));
  })) ∙ ap (due unit) (take_all (length p.items) p.items (omega arith))
]
  where
    within : (n i : ℕ) → n ≤ i → nat_le n i ≡ true
    within n i h = grind (arith, nat_tests, h)

    none : (i : ℕ) → place_at p unit ≤ i → i < length p.items → (o : Option Seen) → due_at unit p.items i ≡ o
        → due_at unit p.items i ≡ None
    none i from below None is = is
    none i from below (Some seen) is =
        let other = item_due unit i p.items (get_or p.items i None) refl (λ gone. some_none seen (sym is ∙ gone)) in
        let lack = lacks_some p i other.0 other.1 ∙ (ap (λ u. nat_le (place_at p u) i) other.2
        ∙ within (place_at p unit) i from) in
        absurd (false≢true (sym (caught i below) ∙ lack))
      where
        some_none : (s : Seen) → Some s ≡ None → ⊥
        some_none s e = cc

-- Rows linked to the next ones of their units.
use Rattle.std.proofs.Common.{◌≡◌, ◌≢◌, ℕ, ◌+◌, ◌<◌, inl, inr, true, false, nat_eq, List, length, get_or, set, replicate, Option, None, Some, IfSome, IsSome, refl, sym, ap, subst, ◌∙◌, arith, length-set, ◌^◌}
use Rattle.std.proofs.lemmas.Bool.{cases_eq}
use Rattle.std.proofs.lemmas.Bool.Decides.{nat_tests}
use Rattle.std.proofs.lemmas.List.{get_or-replicate, get_or-set_same, get_or-set_other, get_or_past, length-replicate}
use Rattle.session_audit.specs.{Item, AreLinked, IsChained}
use Rattle.session_audit.specs.Agendas.{IsNext, due_at, seen_at}

-- ---- the next row of a unit

-- after all rows none is due
next_at_end : (unit : ℕ) (items : List (Option Item)) → IsNext unit items (length items) (length items)
next_at_end unit items = record {
  order = omega arith;
  within = omega arith;
  none_between = λ i from below. absurd (omega arith);
  there = λ below. absurd (omega arith);
}

-- a row that is due at a unit is the next one there
next_here : (unit : ℕ) (items : List (Option Item)) (place : ℕ) → place < length items
    → IsSome (due_at unit items place) → IsNext unit items place place
next_here unit items place within due = record {
  order = omega arith;
  within = omega arith;
  none_between = λ i from below. absurd (omega arith);
  there = λ below. due;
}

-- a row that is not due there is passed
next_before : (unit : ℕ) (items : List (Option Item)) (place to : ℕ) → due_at unit items place ≡ None
    → IsNext unit items (place + 1) to → IsNext unit items place to
next_before unit items place to none next = record {
  order = omega (arith, next.order);
  within = next.within;
  none_between = λ i from below. elim (cases_eq i place) [
    | inl same ↦ ap (due_at unit items) same ∙ none
    | inr other ↦ next.none_between i (omega (arith, other)) below
  ];
  there = next.there;
}

-- ---- one row more at the front

-- a row is due at its unit, and at no other
due_here : (item : Item) → IsSome (seen_at item.unit (Some item))
due_here item = rw (same item.unit) refl
  where
    same : (n : ℕ) → nat_eq n n ≡ true
    same n = grind (arith, nat_tests)

not_due : (item : Item) (unit : ℕ) → unit ≢ item.unit → seen_at unit (Some item) ≡ None
not_due item unit other = rw (differ) refl
  where
    differ : nat_eq item.unit unit ≡ false
    differ = grind (arith, nat_tests, other)

-- a row that counts nowhere changes no link
pub linked_past : (items : List (Option Item)) (next at : List ℕ) (place : ℕ) → get_or items place None ≡ None
    → AreLinked items next at (place + 1) → AreLinked items next at place
linked_past items next at place none behind = record {
  first = λ u known. next_before u items place (get_or at u 0) (ap (seen_at u) none) (behind.first u known);
  links = λ i from. elim (cases_eq i place) [
    | inl same ↦ subst (λ j. IfSome (get_or items j None) (λ item. IsNext item.unit items (j + 1) (get_or next j 0)))
        (sym same) (subst (λ o. IfSome o (λ item. IsNext item.unit items (place + 1) (get_or next place 0))) (sym none) tt)
    | inr other ↦ behind.links i (omega (arith, other))
  ];
}

-- a row that is due is the first of its unit then
pub linked_more : (items : List (Option Item)) (next at : List ℕ) (place : ℕ) (item : Item)
    → get_or items place None ≡ Some item → place < length items → place < length next → item.unit < length at
    → AreLinked items next at (place + 1)
    → AreLinked items (set next place (get_or at item.unit 0)) (set at item.unit place) place
linked_more items next at place item there within room known behind = record {
  first = λ u below. elim (cases_eq u item.unit) [
    | inl same ↦ subst (λ v. IsNext v items place (get_or (set at item.unit place) v 0)) (sym same)
        (subst (λ n. IsNext item.unit items place n) (sym (get_or-set_same at item.unit place 0 known))
        (next_here item.unit items place within (subst (λ o. IsSome (seen_at item.unit o)) (sym there) (due_here item))))
    | inr other ↦ subst (λ n. IsNext u items place n) (sym (get_or-set_other at item.unit u place 0 other))
        (next_before u items place (get_or at u 0) (ap (seen_at u) there ∙ not_due item u other)
        (behind.first u (omega (arith, below, length-set at item.unit place))))
  ];
  links = λ i from. elim (cases_eq i place) [
    | inl same ↦ subst (λ j. IfSome (get_or items j None) (λ row. IsNext row.unit items (j + 1)
        (get_or (set next place (get_or at item.unit 0)) j 0))) (sym same)
        (subst (λ o. IfSome o (λ row. IsNext row.unit items (place + 1)
        (get_or (set next place (get_or at item.unit 0)) place 0))) (sym there)
        (subst (λ n. IsNext item.unit items (place + 1) n)
        (sym (get_or-set_same next place (get_or at item.unit 0) 0 room)) (behind.first item.unit known)))
    | inr other ↦ subst (λ n. IfSome (get_or items i None) (λ row. IsNext row.unit items (i + 1) n))
        (sym (get_or-set_other next place i (get_or at item.unit 0) 0 other)) (behind.links i (omega (arith, other)))
  ];
}

-- after all rows, each unit begins at the end
pub linked_none : (items : List (Option Item)) (next at : List ℕ) (units : ℕ) → at ≡ replicate units (length items)
    → AreLinked items next at (length items)
linked_none items next at units is = record {
  first = λ u known. subst (λ n. IsNext u items (length items) n)
      (sym (ap (λ l. get_or l u 0) is ∙ get_or-replicate units u (length items) 0 (omega (arith, known, ap length is, length-replicate units (length items)))))
      (next_at_end u items);
  links = λ i from. subst (λ o. IfSome o (λ row. IsNext row.unit items (i + 1) (get_or next i 0)))
      (sym (get_or_past items i None from)) tt;
}

-- the next row from a place on is the next one from itself on
next_again : (unit : ℕ) (items : List (Option Item)) (from to : ℕ) → IsNext unit items from to → IsNext unit items to to
next_again unit items from to next = record {
  order = omega arith;
  within = next.within;
  none_between = λ i above below. absurd (omega (arith, above, below));
  there = next.there;
}

-- all rows are linked
pub linked_all : (items : List (Option Item)) (next at : List ℕ) → length next ≡ length items → length items < 2 ^ 32
    → ((i : ℕ) → IfSome (get_or items i None) (λ item. item.unit < length at)) → AreLinked items next at 0
    → IsChained items next at
linked_all items next at as_many few units linked = record {
  as_many = as_many;
  few = few;
  units = units;
  here = λ u known. next_again u items 0 (get_or at u 0) (linked.first u known);
  links = λ i. linked.links i (omega arith);
}

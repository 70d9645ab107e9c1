use Rattle.std.proofs.Common.{◌≡◌, ◌⊎◌, ℕ, ◌+◌, ◌<◌, inl, inr, true, List, [], ◌∷◌, ◌++◌, Contains, get_or, length, set, take, subst, sym, ap, ◌∙◌, arith}
use Rattle.std.proofs.lemmas.Bool.{cases_eq}
use Rattle.std.proofs.lemmas.List.{get_or-set_other, get_or-set_same, get_or_past, take_all, take_more}
use Rattle.std.proofs.lemmas.List.Elements.{Contains-append_left, Contains-push, Contains-push_cases}
use Rattle.group_book.specs.{is_unsaved}
use Rattle.group_book.proofs.unsaved.set_flags.Goals as goal
use Rattle.group_book.proofs.unsaved.set_flags.Goals.{then-k-flags, else-k-flags}

-- what is among the first places and one more, and what is not
module _ (xs : List ℕ) (i j : ℕ) (within : i < length xs) where
  taken : Contains (take (i + 1) xs) j → Contains (take i xs) j ⊎ (j ≡ get_or xs i 0)
  taken has = elim (Contains-push_cases (take i xs) (get_or xs i 0) j (subst (λ l. Contains l j) (take_more xs i 0 within) has)) [
    | inl before ↦ inl before
    | inr here ↦ inr (sym here)
  ]

  earlier : Contains (take i xs) j → Contains (take (i + 1) xs) j
  earlier has = subst (λ l. Contains l j) (sym (take_more xs i 0 within)) (Contains-append_left (take i xs) _ j has)

  last : j ≡ get_or xs i 0 → Contains (take (i + 1) xs) j
  last here = subst (λ l. Contains l j) (sym (take_more xs i 0 within))
      (subst (λ x. Contains (take i xs ++ x ∷ []) j) here (Contains-push (take i xs) j))

pub loop-k-preserved : goal.loop-k-preserved
loop-k-preserved c =
    let i = c.loop-k.k-index in
    let windows = c.args.windows.now in
    let k = get_or windows i 0 in
    let flags = c.loop-k.flags in
    let was = c.loop-k.invariant in
    let within = c.loop-k-test.true in
    elim c.if-k-flags.branch [
      | then-k-flags w ↦
          let same = λ (j : ℕ). ap (λ l. is_unsaved l j) w.flags-is in
          record {
            set = λ j has. same j ∙ elim (cases_eq j k) [
              | inl here ↦
                  ap (is_unsaved (set flags k true)) here ∙ get_or-set_same flags k true true w.if-k-flags.true
              | inr other ↦ get_or-set_other flags k j true true other ∙ elim (taken windows i j within has) [
                | inl before ↦ was.set j before
                | inr here ↦ absurd (other here)
              ]
            ];
            others = λ j none.
                same j
                ∙ (get_or-set_other flags k j true true (λ here. none (last windows i j within here))
                ∙ was.others j (λ has. none (earlier windows i j within has)));
          }
      | else-k-flags w ↦
          let same = λ (j : ℕ). ap (λ l. is_unsaved l j) w.flags-is in
          record {
            set = λ j has. same j ∙ elim (taken windows i j within has) [
              | inl before ↦ was.set j before
              | inr here ↦ get_or_past flags j true (omega (arith, here, w.if-k-flags.false))
            ];
            others = λ j none. same j ∙ was.others j (λ has. none (earlier windows i j within has));
          }
    ]

pub returns-clause-set : goal.returns-clause-set
returns-clause-set c = grind (arith, take_all)

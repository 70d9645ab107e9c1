-- The numbers below another one that pass a test, in rising order.
use Rattle.std.proofs.Common.{◌≡◌, ℕ, zero, suc, ◌+◌, ◌<◌, ◌≤◌, inl, inr, Bool, true, false, cond, [], ◌∷◌, ◌++◌, Contains, All, length, refl, subst, sym, ap, ap₂, ◌∙◌, append-nil, arith}
use Rattle.std.specs.List.{filter, range_with_len}
use Rattle.std.proofs.lemmas.Bool.{cases_eq}
use Rattle.std.proofs.lemmas.List.{map-id}
use Rattle.std.proofs.lemmas.List.Elements.{All-filter, Contains-append_left, Contains-push, filter_passes}
use Rattle.std.proofs.lemmas.List.FromFn.{filter_of_map_range_with_len_more, get_or-range_with_len, length-range_with_len}
use Rattle.std.proofs.lemmas.List.Sums.{count_by-le-length, length-filter}

module _ (p : ℕ → Bool) where
  -- with the next number
  pub passing_more : (n : ℕ) → filter p (range_with_len 0 (n + 1)) ≡ filter p (range_with_len 0 n) ++ cond (p n) (n ∷ []) []
  passing_more n =
      ap (filter p) (sym (map-id (range_with_len 0 (n + 1))))
      ∙ (filter_of_map_range_with_len_more p (λ (i : ℕ). i) 0 n n (omega arith)
      ∙ ap (λ l. filter p l ++ cond (p n) (n ∷ []) []) (map-id (range_with_len 0 n)))

  -- where it passes, and where it does not
  pub passing_next : (n : ℕ) → p n ≡ true → filter p (range_with_len 0 (n + 1)) ≡ filter p (range_with_len 0 n) ++ n ∷ []
  passing_next n passes = passing_more n ∙ ap (λ b. filter p (range_with_len 0 n) ++ cond b (n ∷ []) []) passes

  pub passing_same : (n : ℕ) → p n ≡ false → filter p (range_with_len 0 (n + 1)) ≡ filter p (range_with_len 0 n)
  passing_same n fails = grind (arith, passing_more, append-nil)

  -- numbers of which none passes
  pub passing_none : (n m : ℕ) → ((k : ℕ) → n ≤ k → k < n + m → p k ≡ false)
      → filter p (range_with_len 0 (n + m)) ≡ filter p (range_with_len 0 n)
  passing_none n zero none = (let same : n + 0 ≡ n = omega arith in ap (λ i. filter p (range_with_len 0 i)) same)
  passing_none n (suc m) none =
      let next : n + suc m ≡ (n + m) + 1 = omega arith in
      ap (λ i. filter p (range_with_len 0 i)) next
      ∙ (passing_same (n + m) (none (n + m) (omega arith) (omega arith))
      ∙ passing_none n m (λ k low below. none k low (omega arith)))

  -- there are no more of them than numbers
  pub passing_few : (n : ℕ) → length (filter p (range_with_len 0 n)) ≤ n
  passing_few n = grind (arith, length-filter, count_by-le-length, length-range_with_len)

  -- a number that passes is one of them
  pub passing_has : (n k : ℕ) → k < n → p k ≡ true → Contains (filter p (range_with_len 0 n)) k
  passing_has zero k below passes = absurd (omega arith)
  passing_has (suc n) k below passes =
      let next : n + 1 ≡ suc n = omega arith in
      subst (λ i. Contains (filter p (range_with_len 0 i)) k) next (elim (cases_eq k n) [
        | inl last ↦
            subst (λ l. Contains l k) (sym (passing_next n (ap p (sym last) ∙ passes)))
            (subst (λ i. Contains (filter p (range_with_len 0 n) ++ i ∷ []) k) last (Contains-push (filter p (range_with_len 0 n)) k))
        | inr before ↦
            subst (λ l. Contains l k) (sym (passing_more n))
            (Contains-append_left (filter p (range_with_len 0 n)) (cond (p n) (n ∷ []) []) k (passing_has n k (omega arith) passes))
      ])

  -- they are below it, and each of them passes
  pub passing_below : (n : ℕ) → All (λ i. i < n) (filter p (range_with_len 0 n))
  passing_below n = All-filter p (λ i. i < n) (range_with_len 0 n)
      (λ i d within. omega (arith, get_or-range_with_len 0 n i d (omega (arith, within, length-range_with_len 0 n)), length-range_with_len 0 n))

  pub passing_are : (n k : ℕ) → Contains (filter p (range_with_len 0 n)) k → (k < n) × (p k ≡ true)
  passing_are n k has = grind (arith, passing_below, filter_passes)

-- tests that agree below a number pass the same numbers
pub passing_agree : (p q : ℕ → Bool) (n : ℕ) → ((k : ℕ) → k < n → p k ≡ q k)
    → filter p (range_with_len 0 n) ≡ filter q (range_with_len 0 n)
passing_agree p q zero same = refl
passing_agree p q (suc n) same =
    let next : suc n ≡ n + 1 = omega arith in
    let rest = passing_agree p q n (λ k below. same k (omega arith)) in
    ap (λ m. filter p (range_with_len 0 m)) next
    ∙ (passing_more p n ∙ (ap₂ (λ l b. l ++ cond b (n ∷ []) []) rest (same n (omega arith))
    ∙ (sym (passing_more q n) ∙ ap (λ m. filter q (range_with_len 0 m)) (sym next))))

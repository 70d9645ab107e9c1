-- The windows in which rows may have changed since they were saved.
use Rattle.std.proofs.Common.{◌≡◌, ◌⊎◌, inl, inr, ℕ, zero, suc, ◌+◌, ◌<◌, ◌≤◌, Bool, true, false, cond, All, Contains, List, [], ◌∷◌, Option, None, Some, get_or, length, refl, sym, ap, ◌∙◌, subst, arith}
use Rattle.std.specs.Prelude.{option_and_then, slice_get, Vec}
use Rattle.std.specs.declared.alloc.Global.{Global}
use Rattle.std.specs.List.{filter, range_with_len}
use Rattle.std.specs.Option.{option_map}
use Rattle.std.proofs.lemmas.Bool.{cases_eq, cases_lt}
use Rattle.std.proofs.lemmas.List.{get_or-map, length-map, same_lists}
use Rattle.std.proofs.lemmas.List.Elements.{All-cons, All-contains, All-nil, Contains-append_right}
use Rattle.std.proofs.lemmas.Option.{get_or_from_slice_get, slice_get-get_or, slice_get-map}
use Rattle.trend_num.specs.{CalcValue}
use Rattle.sheet_law.specs.{column}
use Rattle.calc_refresh.specs.{lists_of}
use Rattle.calc_refresh.proofs.Inputs.{lists_at}
use Rattle.group_layout.specs.{cell_of}
use Rattle.group_book.specs.{HasAllChanges}

-- the values of two rows at one place of a column
pub same_values : (olds news : List (Vec CalcValue Global)) (i k : ℕ) (v w : Vec CalcValue Global) → i < length olds → i < length news
    → column k (lists_of olds) ≡ column k (lists_of news) → slice_get (get_or olds i v).items k ≡ slice_get (get_or news i w).items k
same_values olds news i k v w inside within same =
    sym (at olds v inside) ∙ (ap (λ l. get_or l i None) same ∙ at news w within)
  where
    at : (rows : List (Vec CalcValue Global)) (u : Vec CalcValue Global) → i < length rows
        → get_or (column k (lists_of rows)) i None ≡ slice_get (get_or rows i u).items k
    at rows u within = grind (arith, get_or-map, length-map, lists_at)

-- a list that has at each place what another one has there
pub same_places : (xs ys : List CalcValue) → length xs ≡ length ys
    → ((k : ℕ) → k < length ys → slice_get xs k ≡ slice_get ys k) → xs ≡ ys
same_places xs ys long same = grind (arith, same_lists, get_or_from_slice_get, slice_get-get_or)

-- the only element of a list
pub only_one : (x y : ℕ) → Contains (x ∷ []) y → x ≡ y
only_one x y has = All-contains (λ z. x ≡ z) (x ∷ []) y (All-cons (λ z. x ≡ z) x [] refl (All-nil (λ z. x ≡ z))) has

module _ (old new : List (List CalcValue)) where
  -- ---- what such a list says of each window

  -- a window is in the list, or has not changed
  pub changes_cover : (from to : ℕ) (ks : List ℕ) → HasAllChanges old new from to ks → (k : ℕ) → from ≤ k → k < to
      → Contains ks k ⊎ (column k old ≡ column k new)
  changes_cover from to [] all k low below = inr (all k low below)
  changes_cover from to (x ∷ ks) all k low below = elim (cases_lt k x) [
    | inl before ↦ inr (all.2 k low before)
    | inr after ↦ elim (cases_eq x k) [
      | inl here ↦ inl (0, omega arith, here)
      | inr other ↦ elim (changes_cover (x + 1) to ks all.3 k (omega arith) below) [
        | inl has ↦ inl (Contains-append_right (x ∷ []) ks k has)
        | inr same ↦ inr same
      ]
    ]
  ]

  -- the windows of the list lie before its end
  pub changes_below : (from to : ℕ) (ks : List ℕ) → HasAllChanges old new from to ks → All (λ k. k < to) ks
  changes_below from to [] all = All-nil (λ k. k < to)
  changes_below from to (k ∷ ks) all = All-cons (λ j. j < to) k ks all.1 (changes_below (k + 1) to ks all.3)

  -- ---- which lists are such

  -- one window more at the front that has not changed
  changes_earlier : (from to : ℕ) (ks : List ℕ) → column from old ≡ column from new → HasAllChanges old new (from + 1) to ks
      → HasAllChanges old new from to ks
  changes_earlier from to [] same all = λ k low below. by_place k low (λ after. all k after below)
    where
      by_place : (k : ℕ) → from ≤ k → (from + 1 ≤ k → column k old ≡ column k new) → column k old ≡ column k new
      by_place k low after = elim (cases_eq from k) [
        | inl here ↦ subst (λ n. column n old ≡ column n new) here same
        | inr other ↦ after (omega arith)
      ]
  changes_earlier from to (x ∷ ks) same all = (omega (arith, all.0), all.1, λ k low before. by_place k low (λ after. all.2 k after before), all.3)
    where
      by_place : (k : ℕ) → from ≤ k → (from + 1 ≤ k → column k old ≡ column k new) → column k old ≡ column k new
      by_place k low after = elim (cases_eq from k) [
        | inl here ↦ subst (λ n. column n old ≡ column n new) here same
        | inr other ↦ after (omega arith)
      ]

  -- the windows that pass a test, where each other one has not changed
  pub all_changes : (p : ℕ → Bool) (from n : ℕ) → ((k : ℕ) → p k ≡ false → column k old ≡ column k new)
      → HasAllChanges old new from (from + n) (filter p (range_with_len from n))
  all_changes p from zero same = λ k low below. absurd (omega arith)
  all_changes p from (suc n) same =
      let end : from + 1 + n ≡ from + suc n = omega arith in
      subst (λ to. HasAllChanges old new from to (filter p (range_with_len from (suc n)))) end
      (by_test (p from) refl (all_changes p (from + 1) n same))
    where
      rest : List ℕ
      rest = filter p (range_with_len (from + 1) n)

      by_test : (b : Bool) → p from ≡ b → HasAllChanges old new (from + 1) (from + 1 + n) rest
          → HasAllChanges old new from (from + 1 + n) (cond b (from ∷ rest) rest)
      by_test true passes all = (omega arith, omega arith, λ k low before. absurd (omega arith), all)
      by_test false fails all = changes_earlier from (from + 1 + n) rest (same from fails) all

-- columns that are the same have the same cells
pub same_cells : (old new : List (List CalcValue)) (calc k : ℕ) → column k old ≡ column k new → cell_of old calc k ≡ cell_of new calc k
same_cells old new calc k same = by_column old ∙ (ap (λ l. flat (slice_get l calc)) same ∙ sym (by_column new))
  where
    flat : Option (Option CalcValue) → Option CalcValue
    flat None = None
    flat (Some o) = o

    at : (o : Option (List CalcValue)) → option_and_then (λ row. slice_get row k) o ≡ flat (option_map (λ row. slice_get row k) o)
    at None = refl
    at (Some row) = refl

    by_column : (rows : List (List CalcValue)) → cell_of rows calc k ≡ flat (slice_get (column k rows) calc)
    by_column rows = at (slice_get rows calc) ∙ ap flat (sym (slice_get-map (λ row. slice_get row k) rows calc))

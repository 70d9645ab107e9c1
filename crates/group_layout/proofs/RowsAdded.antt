-- The rows that blocks and one more give.
use Rattle.std.proofs.Common.{◌≡◌, ◌⊎◌, inl, inr, ℕ, zero, suc, ◌<◌, ◌≤◌, Bool, true, false, All, List, [], ◌∷◌, ◌++◌, length, get_or, slice_get, option_and_then, Option, None, Some, refl, sym, ap, ◌∙◌, arith, if◌then◌else◌}
use Rattle.std.proofs.lemmas.Bool.{cases_lt}
use Rattle.std.proofs.lemmas.Grind.{flat_map-append}
use Rattle.std.proofs.lemmas.List.{append-nil}
use Rattle.std.proofs.lemmas.List.Elements.{All-head, All-tail}
use Rattle.std.proofs.lemmas.Option.{slice_get-get_or, slice_get_cases, slice_get_past}
use Rattle.trend_num.specs.{CalcValue}
use Rattle.group_layout.specs.{BlockRow, BlockParts, AreRowsOf, cell_of, is_at, listed_from, saved_value, value_of}
use Rattle.group_layout.proofs.SavedRows.{listed-append}

-- ---- cells

-- after the windows there is no cell
pub cell_past : (rows : List (List CalcValue)) (calc k n : ℕ) → All (λ row. length row ≡ n) rows → n ≤ k → cell_of rows calc k ≡ None
cell_past [] calc k n wide past = refl
cell_past (row ∷ rows) zero k n wide past =
    slice_get_past row k (omega (arith, All-head (λ r. length r ≡ n) row rows wide))
cell_past (row ∷ rows) (suc calc) k n wide past = cell_past rows calc k n (All-tail (λ r. length r ≡ n) row rows wide) past

-- in each of them there is one
pub cell_there : (rows : List (List CalcValue)) (calc k n : ℕ) → All (λ row. length row ≡ n) rows → calc < length rows → k < n
    → (v : CalcValue) × (cell_of rows calc k ≡ Some v)
cell_there rows calc k n wide low within =
    let row = get_or rows calc [] in
    let long : length row ≡ n = wide calc [] low in
    elim (slice_get_cases row k).1 [
      | inl there ↦ (there.0, ap (option_and_then (λ r. slice_get r k)) (slice_get-get_or rows calc [] low) ∙ there.2)
      | inr past ↦ absurd (omega (arith, past, long, within))
    ]

-- ---- what rows list

-- a value that is listed, or was there before, stays listed
listed_kept : (x : CalcValue) (rows : List BlockRow) (calc k : ℕ) → listed_from (Some x) rows calc k ≡ None → ⊥
listed_kept x [] calc k is = absurd (cc (is))
listed_kept x (r ∷ rows) calc k is = go (is_at calc k r) (λ y e. listed_kept y rows calc k e) is
  where
    go : (b : Bool) → ((y : CalcValue) → listed_from (Some y) rows calc k ≡ None → ⊥)
        → listed_from (if b then Some (value_of r) else Some x) rows calc k ≡ None → ⊥
    go true rest e = rest (value_of r) e
    go false rest e = rest x e

-- rows that list a value list it whatever was before
listed_some : (w : Option CalcValue) (rows : List BlockRow) (calc k : ℕ) (v : CalcValue) → listed_from None rows calc k ≡ Some v
    → listed_from w rows calc k ≡ Some v
listed_some w [] calc k v is = absurd (cc (is))
listed_some w (r ∷ rows) calc k v is = go (is_at calc k r) (λ e. listed_some w rows calc k v e) is
  where
    go : (b : Bool) → (listed_from None rows calc k ≡ Some v → listed_from w rows calc k ≡ Some v)
        → listed_from (if b then Some (value_of r) else None) rows calc k ≡ Some v
        → listed_from (if b then Some (value_of r) else w) rows calc k ≡ Some v
    go true rest e = e
    go false rest e = rest e

-- rows that list none leave what was before
listed_none : (w : Option CalcValue) (rows : List BlockRow) (calc k : ℕ) → listed_from None rows calc k ≡ None
    → listed_from w rows calc k ≡ w
listed_none w [] calc k is = refl
listed_none w (r ∷ rows) calc k is = go (is_at calc k r) (λ e. listed_none w rows calc k e) is
  where
    go : (b : Bool) → (listed_from None rows calc k ≡ None → listed_from w rows calc k ≡ w)
        → listed_from (if b then Some (value_of r) else None) rows calc k ≡ None
        → listed_from (if b then Some (value_of r) else w) rows calc k ≡ w
    go true rest e = absurd (listed_kept (value_of r) rows calc k e)
    go false rest e = rest e

-- one block more
saved-push : (bs : List BlockParts) (b : BlockParts) (calc k : ℕ) → saved_value (bs ++ b ∷ []) calc k ≡ listed_from (saved_value bs calc k) b.rows calc k
saved-push bs b calc k = grind (arith, flat_map-append, append-nil, listed-append)

-- of a cell that changed a block lists the new value, and of any other none
abbrev pub IsAddedAt : List (List CalcValue) → List (List CalcValue) → List BlockRow → ℕ → ℕ → Type 0
IsAddedAt old new rows calc k =
    ((cell_of new calc k ≡ cell_of old calc k) × (listed_from None rows calc k ≡ None)) ⊎ (listed_from None rows calc k ≡ cell_of new calc k)

-- blocks give the old rows, and with one more the new ones
pub rows_more : (calcs : ℕ) (before b : BlockParts) (bs : List BlockParts) (old new : List (List CalcValue)) → AreRowsOf calcs before.windows bs old
    → length new ≡ calcs → All (λ row. length row ≡ b.windows) new
    → ((calc k : ℕ) → calc < calcs → k < b.windows → IsAddedAt old new b.rows calc k) → AreRowsOf calcs b.windows (bs ++ b ∷ []) new
rows_more calcs before b bs old new are long wide added = record {
  calcs_are = long;
  windows_are = wide;
  values = λ calc k low within.
      sym (saved-push bs b calc k ∙ value calc k low within (cell_there new calc k b.windows wide (omega (arith, low, long)) within)
      (added calc k low within));
}
  where
    value : (calc k : ℕ) → calc < calcs → k < b.windows → (v : CalcValue) × (cell_of new calc k ≡ Some v) → IsAddedAt old new b.rows calc k
        → listed_from (saved_value bs calc k) b.rows calc k ≡ cell_of new calc k
    value calc k low within there (inr is) = listed_some (saved_value bs calc k) b.rows calc k there.0 (is ∙ there.1) ∙ sym there.1
    value calc k low within there (inl same) = elim (cases_lt k before.windows) [
      | inl inside ↦ listed_none (saved_value bs calc k) b.rows calc k same.1 ∙ sym (same.0 ∙ are.values calc k low inside)
      | inr past ↦ absurd (cc (there.1, same.0, cell_past old calc k before.windows are.windows_are past))
    ]

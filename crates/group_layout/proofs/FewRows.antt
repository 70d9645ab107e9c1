-- Fewer rows than cells leave a cell without a value.
use Rattle.std.proofs.Common.{◌≡◌, inl, inr, ℕ, zero, suc, ◌+◌, ◌*◌, ◌<◌, ◌≤◌, List, [], ◌∷◌, length, get_or, map, drop, set, fold, replicate, Option, None, Some, refl, ap, arith}
use Rattle.std.proofs.lemmas.Bool.{cases_lt}
use Rattle.trend_num.specs.{CalcValue}
use Rattle.group_layout.specs.{BlockRow, BlockParts, rows_of_blocks, saved_value, value_of, with_row}
use Rattle.group_layout.proofs.SavedRows.{lengths_saved, cells_saved}

-- how many of these cells have a value
abbrev filled : List (Option CalcValue) → ℕ
filled [] = 0
filled (None ∷ xs) = filled xs
filled (Some v ∷ xs) = suc (filled xs)

-- how many cells of all calculations have a value
abbrev all_filled : List (List (Option CalcValue)) → ℕ
all_filled [] = 0
all_filled (l ∷ ls) = filled l + all_filled ls

-- one cell written fills at most one
filled-set : (xs : List (Option CalcValue)) (k : ℕ) (x : Option CalcValue) → filled (set xs k x) ≤ suc (filled xs)
filled-set [] k x = omega arith
filled-set (None ∷ xs) zero None = omega arith
filled-set (None ∷ xs) zero (Some v) = omega arith
filled-set (Some w ∷ xs) zero None = omega arith
filled-set (Some w ∷ xs) zero (Some v) = omega arith
filled-set (None ∷ xs) (suc k) x = filled-set xs k x
filled-set (Some w ∷ xs) (suc k) x = omega (arith, filled-set xs k x)

-- so does one cell of one calculation
all_filled-set : (ls : List (List (Option CalcValue))) (i : ℕ) (l : List (Option CalcValue)) → filled l ≤ suc (filled (get_or ls i []))
    → all_filled (set ls i l) ≤ suc (all_filled ls)
all_filled-set [] i l more = omega arith
all_filled-set (m ∷ ls) zero l more = omega (arith, more)
all_filled-set (m ∷ ls) (suc i) l more = omega (arith, all_filled-set ls i l more)

-- rows fill at most as many cells as there are rows
all_filled-with_rows : (cells : List (List (Option CalcValue))) (rows : List BlockRow)
    → all_filled (fold with_row cells rows) ≤ all_filled cells + length rows
all_filled-with_rows cells [] = omega arith
all_filled-with_rows cells (r ∷ rows) =
    omega (
      arith,
      all_filled-with_rows (with_row cells r) rows,
      all_filled-set cells r.calc (set (get_or cells r.calc []) r.window (Some (value_of r)))
          (filled-set (get_or cells r.calc []) r.window (Some (value_of r))),
    )

-- no cell of a calculation has a value at first
filled-replicate : (windows : ℕ) → filled (replicate windows None) ≡ 0
filled-replicate zero = refl
filled-replicate (suc n) = filled-replicate n

-- nor has one of any calculation
all_filled-replicate : (calcs windows : ℕ) → all_filled (replicate calcs (replicate windows None)) ≡ 0
all_filled-replicate zero windows = refl
all_filled-replicate (suc n) windows = omega (arith, filled-replicate windows, all_filled-replicate n windows)

-- where fewer cells have a value than there are, one has none
empty_cell : (xs : List (Option CalcValue)) → filled xs < length xs → (k : ℕ) × (k < length xs) × (get_or xs k None ≡ None)
empty_cell [] few = absurd (omega (arith, few))
empty_cell (None ∷ xs) few = (0, omega arith, refl)
empty_cell (Some v ∷ xs) few =
    let found = empty_cell xs (omega (arith, few)) in
    (suc found.0, omega (arith, found.1), found.2)

-- so it is over all calculations
empty_place : (ls : List (List (Option CalcValue))) (calcs windows : ℕ)
    → map length ls ≡ replicate calcs windows → all_filled ls < calcs * windows
    → (calc : ℕ) × (k : ℕ) × (calc < calcs) × (k < windows) × (get_or (get_or ls calc []) k None ≡ None)
empty_place ls zero windows are few = absurd (omega (arith, few))
empty_place [] (suc n) windows are few = absurd (omega (arith, ap length are))
empty_place (l ∷ ls) (suc n) windows are few = elim (cases_lt (filled l) (length l)) [
  | inl some ↦
      let found = empty_cell l some in
      (0, found.0, omega arith, omega (arith, found.1, long), found.2)
  | inr full ↦
      let found = empty_place ls n windows others (omega (arith, few, full, long)) in
      (suc found.0, found.1, omega (arith, found.2), found.3, found.4)
]
  where
    long : length l ≡ windows
    long = ap (λ ns. get_or ns 0 0) are

    others : map length ls ≡ replicate n windows
    others = ap (drop 1) are

-- fewer rows than cells: blocks give no value for some calculation in some window
pub too_few : (calcs windows : ℕ) (bs : List BlockParts) → length (rows_of_blocks bs) < calcs * windows
    → (calc : ℕ) × (k : ℕ) × (calc < calcs) × (k < windows) × (saved_value bs calc k ≡ None)
too_few calcs windows bs few = in_cells (fold with_row no_values (rows_of_blocks bs)) refl
  where
    no_values : List (List (Option CalcValue))
    no_values = replicate calcs (replicate windows None)

    in_cells : (cells : List (List (Option CalcValue))) → cells ≡ fold with_row no_values (rows_of_blocks bs)
        → (calc : ℕ) × (k : ℕ) × (calc < calcs) × (k < windows) × (saved_value bs calc k ≡ None)
    in_cells cells is = given (empty_place cells calcs windows (lengths_saved cells calcs windows bs is) less)
      where
        less : all_filled cells < calcs * windows
        less = grind (arith, all_filled-with_rows, no_values, all_filled-replicate)

        given : (calc : ℕ) × (k : ℕ) × (calc < calcs) × (k < windows) × (get_or (get_or cells calc []) k None ≡ None)
            → (calc : ℕ) × (k : ℕ) × (calc < calcs) × (k < windows) × (saved_value bs calc k ≡ None)
        given (calc, k, low, within, empty) = grind (arith, cells_saved)

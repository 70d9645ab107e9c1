-- The rows that blocks give, gathered row by row.
use Rattle.std.proofs.Common.{◌≡◌, inl, inr, ℕ, zero, suc, ◌+◌, ◌<◌, ◌&&◌, List, [], ◌∷◌, ◌++◌, length, get_or, map, drop, set, fold, slice_get, option_and_then, length-append, Option, None, Some, refl, sym, ap, ◌∙◌, arith, if◌then◌else◌}
use Rattle.std.specs.Prelude.{Vec, nat_eq, replicate}
use Rattle.std.specs.Vec.{with_item}
use Rattle.std.specs.declared.alloc.Global.{Global}
use Rattle.std.proofs.Math.Seq.{map-set_same}
use Rattle.std.proofs.lemmas.Bool.{cases_lt}
use Rattle.std.proofs.lemmas.Bool.Decides.{eqb_tells}
use Rattle.std.proofs.lemmas.List.{drop_more, get_or-map, get_or-replicate, get_or-set_other, get_or-set_same, length-map, length-replicate, length-set, map-set}
use Rattle.std.proofs.lemmas.List.Sums.{fold-append}
use Rattle.std.proofs.lemmas.List.Elements.{All-push}
use Rattle.trend_num.specs.{CalcValue}
use Rattle.group_layout.specs.{Block, BlockRow, BlockParts, parts_of, AreRowsOf, block_lists_of, rows_of_blocks, is_at, listed_from, saved_value, value_of, with_row}

-- rows after rows
pub listed-append : (v : Option CalcValue) (xs ys : List BlockRow) (calc k : ℕ)
    → listed_from v (xs ++ ys) calc k ≡ listed_from (listed_from v xs calc k) ys calc k
listed-append v [] ys calc k = refl
listed-append v (r ∷ xs) ys calc k = listed-append (if is_at calc k r then Some (value_of r) else v) xs ys calc k

-- ---- the cells

-- a row changes one of the vectors of cells
pub vector-with_row : (cells : List (Vec (Option CalcValue) Global)) (r : BlockRow) (d : Vec (Option CalcValue) Global) (x : Option CalcValue)
    → r.calc < length cells → x ≡ Some (value_of r)
    → block_lists_of (set cells r.calc (with_item (get_or cells r.calc d) r.window x)) ≡ with_row (block_lists_of cells) r
vector-with_row cells r d x low is = grind (arith, map-set, get_or-map, low)

-- one block more
pub next_block : (before after : List (List (Option CalcValue))) (bs : List Block) (i : ℕ) (b : Block) → i < length bs
    → after ≡ fold with_row before (get_or bs i b).rows.items
    → fold with_row after (rows_of_blocks (map parts_of (drop (i + 1) bs))) ≡ fold with_row before (rows_of_blocks (map parts_of (drop i bs)))
next_block before after bs i b low is = grind (arith, fold-append, drop_more, low)

-- a row leaves as many calculations and windows
lengths-with_row : (cells : List (List (Option CalcValue))) (r : BlockRow) → map length (with_row cells r) ≡ map length cells
lengths-with_row cells r = grind (arith, map-set_same, length-set)

-- so do many
lengths-with_rows : (cells : List (List (Option CalcValue))) (rows : List BlockRow) → map length (fold with_row cells rows) ≡ map length cells
lengths-with_rows cells [] = refl
lengths-with_rows cells (r ∷ rows) = lengths-with_rows (with_row cells r) rows ∙ lengths-with_row cells r

-- what is at a place once one place was written
at_written : {A : Type 0} → (xs : List A) (i j : ℕ) (x d : A) → j < length xs → get_or (set xs i x) j d ≡ (if nat_eq i j then x else get_or xs j d)
at_written xs i j x d low = elim (eqb_tells i j) [
  | inl here ↦
      ap (λ n. get_or (set xs i x) n d) (sym here.1) ∙ get_or-set_same xs i x d (omega (arith, low, here.1))
      ∙ sym (ap (λ b. if b then x else get_or xs j d) here.0)
  | inr other ↦ get_or-set_other xs i j x d (λ e. other.1 (sym e)) ∙ sym (ap (λ b. if b then x else get_or xs j d) other.0)
]

-- the cell that a row changes, and the others
cell-with_row : (cells : List (List (Option CalcValue))) (r : BlockRow) (calc k : ℕ) → calc < length cells → k < length (get_or cells calc [])
    → get_or (get_or (with_row cells r) calc []) k None ≡ (if is_at calc k r then Some (value_of r) else get_or (get_or cells calc []) k None)
cell-with_row cells r calc k low within = elim (eqb_tells r.calc calc) [
  | inl here ↦
      ap (λ l. get_or l k None) (grind (arith, get_or-set_same, v, low))
      ∙ at_written (get_or cells calc []) r.window k v None within
      ∙ sym (ap (λ b. if b && nat_eq r.window k then v else old) here.0)
  | inr other ↦
      ap (λ l. get_or l k None) (get_or-set_other cells r.calc calc (set (get_or cells r.calc []) r.window v) [] (λ e. other.1 (sym e)))
      ∙ sym (ap (λ b. if b && nat_eq r.window k then v else old) other.0)
]
  where
    v : Option CalcValue
    v = Some (value_of r)

    old : Option CalcValue
    old = get_or (get_or cells calc []) k None

-- a cell that there is gets what the rows list for it
cell-with_rows : (cells : List (List (Option CalcValue))) (rows : List BlockRow) (calcs windows calc k : ℕ)
    → map length cells ≡ replicate calcs windows → calc < calcs → k < windows
    → get_or (get_or (fold with_row cells rows) calc []) k None ≡ listed_from (get_or (get_or cells calc []) k None) rows calc k
cell-with_rows cells [] calcs windows calc k long low within = refl
cell-with_rows cells (r ∷ rows) calcs windows calc k long low within =
    cell-with_rows (with_row cells r) rows calcs windows calc k (lengths-with_row cells r ∙ long) low within
    ∙ ap (λ v. listed_from v rows calc k) (cell-with_row cells r calc k low_here within_here)
  where
    low_here : calc < length cells
    low_here = omega (arith, length-map cells length, ap length long, length-replicate calcs windows)

    within_here : k < length (get_or cells calc [])
    within_here = omega (arith, within, sym (get_or-map length cells calc [] 0 low_here) ∙ ap (λ l. get_or l calc 0) long ∙ get_or-replicate calcs calc windows 0 low)

-- cells without a value
lengths-no_cells : (calcs windows : ℕ) → map length (replicate calcs (replicate {A = Option CalcValue} windows None)) ≡ replicate calcs windows
lengths-no_cells calcs windows = map-replicate calcs (replicate {A = Option CalcValue} windows None) ∙ ap (replicate calcs) (length-replicate windows None)
  where
    map-replicate : (n : ℕ) (l : List (Option CalcValue)) → map length (replicate n l) ≡ replicate n (length l)
    map-replicate zero l = refl
    map-replicate (suc n) l = ap (λ ls. length l ∷ ls) (map-replicate n l)

-- of these, all rows of blocks make as many calculations and windows
pub lengths_saved : (cells : List (List (Option CalcValue))) (calcs windows : ℕ) (bs : List BlockParts)
    → cells ≡ fold with_row (replicate calcs (replicate windows None)) (rows_of_blocks bs) → map length cells ≡ replicate calcs windows
lengths_saved cells calcs windows bs is = grind (arith, lengths-with_rows, lengths-no_cells)

-- each with what the blocks give
pub cells_saved : (cells : List (List (Option CalcValue))) (calcs windows : ℕ) (bs : List BlockParts)
    → cells ≡ fold with_row (replicate calcs (replicate windows None)) (rows_of_blocks bs) → (calc k : ℕ) → calc < calcs → k < windows
    → get_or (get_or cells calc []) k None ≡ saved_value bs calc k
cells_saved cells calcs windows bs is calc k low within =
    ap (λ l. get_or (get_or l calc []) k None) is
    ∙ cell-with_rows (replicate calcs (replicate windows None)) (rows_of_blocks bs) calcs windows calc k (lengths-no_cells calcs windows) low within
    ∙ ap (λ v. listed_from v (rows_of_blocks bs) calc k)
    (ap (λ l. get_or l k None) (get_or-replicate calcs calc (replicate windows None) [] low) ∙ get_or-replicate windows k None None within)

-- there are as many vectors of cells as calculations
pub vectors_are : (vs : List (Vec (Option CalcValue) Global)) (calcs windows : ℕ) → map length (block_lists_of vs) ≡ replicate calcs windows
    → length vs ≡ calcs
vectors_are vs calcs windows are = grind (arith, length-map, length-replicate)

-- each of them has as many cells as windows, and what the blocks give
pub vector_is : (vs : List (Vec (Option CalcValue) Global)) (v : Vec (Option CalcValue) Global) (calcs windows i : ℕ) (bs : List BlockParts)
    → v ≡ get_or vs i v → i < length vs → map length (block_lists_of vs) ≡ replicate calcs windows
    → ((calc k : ℕ) → calc < calcs → k < windows → get_or (get_or (block_lists_of vs) calc []) k None ≡ saved_value bs calc k)
    → (i < calcs) × (length v.items ≡ windows) × ((k : ℕ) → k < windows → get_or v.items k None ≡ saved_value bs i k)
vector_is vs v calcs windows i bs at inside are values = (
  low,
  sym (ap length here) ∙ sym (get_or-map length (block_lists_of vs) i [] 0 (omega (arith, inside, length-map vs (λ w. w.items))))
      ∙ ap (λ l. get_or l i 0) are ∙ get_or-replicate calcs i windows 0 low,
  λ k within. ap (λ l. get_or l k None) (sym here) ∙ values i k low within,
)
  where
    low : i < calcs
    low = omega (arith, inside, vectors_are vs calcs windows are)

    here : get_or (block_lists_of vs) i [] ≡ v.items
    here = get_or-map (λ w. w.items) vs i v [] inside ∙ ap (λ (w : Vec (Option CalcValue) Global). w.items) (sym at)

-- an element of a list with more after it
slice_get-append : {X : Type 0} (xs ys : List X) (i : ℕ) → i < length xs → slice_get (xs ++ ys) i ≡ slice_get xs i
slice_get-append [] ys i low = absurd (omega arith)
slice_get-append (x ∷ xs) ys zero low = refl
slice_get-append (x ∷ xs) ys (suc i) low = slice_get-append xs ys i (omega arith)

-- the one after a list
slice_get-seam : {X : Type 0} (xs : List X) (y : X) → slice_get (xs ++ y ∷ []) (length xs) ≡ Some y
slice_get-seam [] y = refl
slice_get-seam (x ∷ xs) y = slice_get-seam xs y

-- a row of which each cell is there
row_cell : (row : List CalcValue) (cells : List (Option CalcValue)) (k : ℕ) → map Some row ≡ cells → k < length row
    → slice_get row k ≡ get_or cells k None
row_cell [] cells k is low = absurd (omega arith)
row_cell (x ∷ row) [] k is low = absurd (omega (arith, ap length is))
row_cell (x ∷ row) (y ∷ cells) zero is low = head_is is
  where
    head_is : Some x ∷ map Some row ≡ y ∷ cells → Some x ≡ y
    head_is e = cc
row_cell (x ∷ row) (y ∷ cells) (suc k) is low = row_cell row cells k (tail_is is) (omega arith)
  where
    tail_is : Some x ∷ map Some row ≡ y ∷ cells → map Some row ≡ cells
    tail_is e = cc

-- one row more
pub rows_push : (calc windows : ℕ) (bs : List BlockParts) (rows : List (List CalcValue)) (row : List CalcValue)
    (cells : List (Option CalcValue)) → AreRowsOf calc windows bs rows → map Some row ≡ cells → length cells ≡ windows
    → ((k : ℕ) → k < windows → get_or cells k None ≡ saved_value bs calc k)
    → AreRowsOf (calc + 1) windows bs (rows ++ row ∷ [])
rows_push calc windows bs rows row cells so_far is long values = record {
  calcs_are = length-append rows (row ∷ []) ∙ ap (λ n. n + 1) so_far.calcs_are;
  windows_are = All-push (λ r. length r ≡ windows) rows row so_far.windows_are wide;
  values = λ x k low within. elim (cases_lt x calc) [
    | inl before ↦ ap (option_and_then (λ r. slice_get r k)) (slice_get_left x before) ∙ so_far.values x k before within
    | inr at ↦
        let same : x ≡ calc = omega arith in
        ap (option_and_then (λ r. slice_get r k)) (slice_get_last x (same ∙ sym so_far.calcs_are))
        ∙ row_cell row cells k is (omega (arith, wide)) ∙ values k within ∙ ap (λ n. saved_value bs n k) (sym same)
  ];
}
  where
    wide : length row ≡ windows
    wide = sym (length-map row Some) ∙ ap length is ∙ long

    slice_get_left : (x : ℕ) → x < calc → slice_get (rows ++ row ∷ []) x ≡ slice_get rows x
    slice_get_left x before = slice_get-append rows (row ∷ []) x (omega (arith, so_far.calcs_are))

    slice_get_last : (x : ℕ) → x ≡ length rows → slice_get (rows ++ row ∷ []) x ≡ Some row
    slice_get_last x place = ap (slice_get (rows ++ row ∷ [])) place ∙ slice_get-seam rows row

-- The rows that blocks give: each block replaces or adds the rows that it lists.
use Rattle.std.specs.Prelude.{◌≡◌, ℕ, ◌+◌, ◌<◌, Bool, ◌&&◌, List, [], ◌∷◌, All, length, flat_map, slice_get, slice_index_or, slice_set, map, Vec, Option, None, Some, option_and_then, nat_eq, if◌then◌else◌}
use Rattle.std.specs.declared.alloc.Global.{Global}
use Rattle.trend_num.specs.declared.value.Bad.TheVariants.{NoData, DivZero, Range}
use Rattle.trend_num.specs.{CalcValue}
use Rattle.trend_num.specs.declared.value.CalcValue.TheVariants.{Num, Bad}
use Rattle.group_layout.specs.declared.block.BlockRow.{BlockRow}
use Rattle.group_layout.specs.Blocks.{BlockParts, unsaved, last_of, end_of, block_size}

-- these vectors as lists
abbrev pub block_lists_of : {A : Type 0} → List (Vec A Global) → List (List A)
block_lists_of vs = map (λ v. v.items) vs

-- the value of a row
abbrev pub value_of : BlockRow → CalcValue
value_of r =
    if nat_eq r.kind 0 then Num r.value
    else if nat_eq r.kind 1 then Bad NoData
    else if nat_eq r.kind 2 then Bad DivZero
    else Bad Range

-- cells with the value of a row in the cell of its calculation and window. Where there is no such cell, they stay
abbrev pub with_row : List (List (Option CalcValue)) → BlockRow → List (List (Option CalcValue))
with_row cells r = slice_set cells r.calc (slice_set (slice_index_or cells r.calc []) r.window (Some (value_of r)))

-- whether a row belongs to a calculation in a window
abbrev pub is_at : ℕ → ℕ → BlockRow → Bool
is_at calc k r = nat_eq r.calc calc && nat_eq r.window k

-- the value that rows list for a calculation in a window: the last one. Where they list none, the value before
abbrev pub listed_from : Option CalcValue → List BlockRow → ℕ → ℕ → Option CalcValue
listed_from v [] calc k = v
listed_from v (r ∷ rs) calc k = listed_from (if is_at calc k r then Some (value_of r) else v) rs calc k

-- all rows of blocks, in order
abbrev pub rows_of_blocks : List BlockParts → List BlockRow
rows_of_blocks bs = flat_map (λ b. b.rows) bs

-- the value that blocks give for a calculation in a window
abbrev pub saved_value : List BlockParts → ℕ → ℕ → Option CalcValue
saved_value bs calc k = listed_from None (rows_of_blocks bs) calc k

-- the value that rows have for a calculation in a window
abbrev pub cell_of : List (List CalcValue) → ℕ → ℕ → Option CalcValue
cell_of rows calc k = option_and_then (λ row. slice_get row k) (slice_get rows calc)

-- blocks give these rows: each of so many calculations has a value in each of so many windows
pub record AreRowsOf (calcs windows : ℕ) (bs : List BlockParts) (rows : List (List CalcValue)) : Type 0 where
  pub calcs_are : length rows ≡ calcs
  pub windows_are : All (λ row. length row ≡ windows) rows
  pub values : (calc k : ℕ) → calc < calcs → k < windows → cell_of rows calc k ≡ saved_value bs calc k

-- a calculation has no value in a window. The damage is at the last open gate
pub record IsIncomplete (calcs inputs at : ℕ) (bs : List BlockParts) (a : ℕ) (byte : Option ℕ) : Type 0 where
  pub calc : ℕ
  pub window : ℕ
  pub calc_is : calc < calcs
  pub window_is : window < (last_of (unsaved inputs) bs).windows
  pub missing : saved_value bs calc window ≡ None
  pub place : a + block_size (last_of (unsaved inputs) bs) ≡ end_of at bs
  pub byte_there : byte ≡ Some 165

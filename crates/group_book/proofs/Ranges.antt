-- The values of rows are in the range of numbers, if those of the opening are; and those of blocks that were read are.
use Rattle.std.proofs.Common.{◌≡◌, inl, inr, ℕ, ◌+◌, ◌<◌, ◌≤◌, Bool, true, false, All, List, [], ◌∷◌, length, slice_get, Option, None, Some, option_and_then, nat_le, nat_lt, refl, sym, ap, ◌∙◌, subst, arith, if◌then◌else◌}
use Rattle.std.specs.Prelude.{pos, nat_eq, unsigned_abs}
use Rattle.std.specs.Ordering.{int_eq}
use Rattle.std.proofs.lemmas.Bool.{cases_lt}
use Rattle.std.proofs.lemmas.Bool.Decides.{nat_tests}
use Rattle.std.proofs.lemmas.List.Elements.{All-append, All-head, All-nil, All-tail}
use Rattle.std.proofs.lemmas.Option.{slice_get_past, slice_get_within, get_or_from_slice_get}
use Rattle.trend_num.specs.{Rec, CalcValue}
use Rattle.trend_num.specs.declared.value.Bad.TheVariants.{NoData, DivZero, Range}
use Rattle.trend_num.specs.declared.value.CalcValue.TheVariants.{Num, Bad}
use Rattle.calc_check.specs.Group.{Group}
use Rattle.calc_eval.proofs.Range.{values_range}
use Rattle.calc_refresh.specs.{GroupDefParts, lists_of}
use Rattle.sheet_law.specs.{Grid, IsInRange, points_by, values_at, complete_windows, window_from, window_to}
use Rattle.group_layout.specs.{BlockRow, BlockParts, HasBlocks, block_size, is_value_ok, last_of, unsaved, cell_of, is_at, listed_from, rows_of_blocks, value_of}
use Rattle.archive_file.specs.{blocks_at}
use Rattle.group_layout.proofs.RowsAdded.{cell_past}
use Rattle.group_book.specs.{GroupOpening, AreRowsOver, AreValuesInRange, is_due_since, HoldsBlocks, Saved}
use Rattle.group_book.proofs.Columns.{same_cells}
use Rattle.group_book.proofs.LegalTurns.{cell_due}

-- ---- rows over records

module _ (g : Group) (grid : Grid) (o : GroupOpening) (rss : List (List Rec)) (rows : List (List CalcValue)) (over : AreRowsOver g grid o rss rows)
    (opening : AreValuesInRange (lists_of o.rows.items)) where
  -- a value from scratch is in the range
  scratch_value : (calc k : ℕ) (v : CalcValue) (b : Bool) → (if b then slice_get (values_at g grid rss k) calc else None) ≡ Some v → IsInRange v
  scratch_value calc k v true is =
      let vs = values_at g grid rss k in
      subst IsInRange (get_or_from_slice_get vs calc v v is)
      (values_range g (points_by rss) (window_from grid k) (window_to grid k) calc v (slice_get_within vs calc v is))
  scratch_value calc k v false is = absurd (cc (is))

  by_due : (calc k : ℕ) (v : CalcValue) → cell_of rows calc k ≡ Some v → (b : Bool) → is_due_since grid o rss k ≡ b → IsInRange v
  by_due calc k v is true due =
      scratch_value calc k v (nat_lt k (complete_windows grid rss))
      (sym (cell_due g grid rss rows calc k over.windows (λ within. over.due k within due)) ∙ is)
  by_due calc k v is false still =
      opening.each calc k v (sym (same_cells rows (lists_of o.rows.items) calc k (over.others k still)) ∙ is)

  -- so all are
  pub rows_range : AreValuesInRange rows
  rows_range = record { each = λ calc k v is. by_due calc k v is (is_due_since grid o rss k) refl }

-- ---- rows of blocks

le_is : (a b : ℕ) → nat_le a b ≡ true → a ≤ b
le_is a b e = grind (arith, nat_tests)

-- a row that breaks no rule has a value in the range
abbrev IsValueOk : BlockRow → Type 0
IsValueOk r = is_value_ok r.kind r.value ≡ true

value_range : (r : BlockRow) → IsValueOk r → IsInRange (value_of r)
value_range r ok = go (nat_eq r.kind 0) (nat_eq r.kind 1) (nat_eq r.kind 2) ok
  where
    go : (a b c : Bool) → (if a then nat_le (unsigned_abs r.value) 1000000000000000000 else int_eq r.value (pos 0)) ≡ true
        → IsInRange (if a then Num r.value else (if b then Bad NoData else (if c then Bad DivZero else Bad Range)))
    go true b c e = le_is (unsigned_abs r.value) 1000000000000000000 e
    go false true c e = tt
    go false false true e = tt
    go false false false e = tt

-- and so has a cell that such rows list
listed_range : (w : Option CalcValue) (rows : List BlockRow) (calc k : ℕ) (v : CalcValue) → All IsValueOk rows
    → ((x : CalcValue) → w ≡ Some x → IsInRange x) → listed_from w rows calc k ≡ Some v → IsInRange v
listed_range w [] calc k v all before is = before v is
listed_range w (r ∷ rows) calc k v all before is =
    listed_range (if is_at calc k r then Some (value_of r) else w) rows calc k v (All-tail IsValueOk r rows all) (either (is_at calc k r)) is
  where
    either : (b : Bool) (x : CalcValue) → (if b then Some (value_of r) else w) ≡ Some x → IsInRange x
    either true x e =
        let same : value_of r ≡ x = cc (e) in
        subst IsInRange same (value_range r (All-head IsValueOk r rows all))
    either false x e = before x e

-- rows of blocks that were read break no rule
rows_ok : (c : List ℕ) (calcs : ℕ) (before : BlockParts) (at : ℕ) (bs : List BlockParts) → HasBlocks c calcs before at bs
    → All IsValueOk (rows_of_blocks bs)
rows_ok c calcs before at [] has = All-nil IsValueOk
rows_ok c calcs before at (b ∷ bs) has =
    All-append IsValueOk b.rows (rows_of_blocks bs) (λ i d low. (has.0.follows.rows.each i d low).value)
    (rows_ok c calcs b (at + block_size b) bs has.1)

-- a cell that has a value is one of a calculation in a window
cell_within : (rows : List (List CalcValue)) (calc k n : ℕ) (v : CalcValue) → All (λ row. length row ≡ n) rows → cell_of rows calc k ≡ Some v
    → (calc < length rows) × (k < n)
cell_within rows calc k n v wide is = (low, within)
  where
    low : calc < length rows
    low = elim (cases_lt calc (length rows)) [
      | inl before ↦ before
      | inr past ↦
          let none : cell_of rows calc k ≡ None = ap (option_and_then (λ row. slice_get row k)) (slice_get_past rows calc past) in
          absurd (cc (none, is))
    ]

    within : k < n
    within = elim (cases_lt k n) [
      | inl before ↦ before
      | inr past ↦
          let none : cell_of rows calc k ≡ None = cell_past rows calc k n wide past in
          absurd (cc (none, is))
    ]

-- the rows that a device has saved have values in the range
pub blocks_range : (text : List ℕ) (def : GroupDefParts) (saved : Saved) (c : List ℕ) → HoldsBlocks text def saved c
    → AreValuesInRange saved.rows
blocks_range text def saved c h = record {
  each = λ calc k v is.
      let are = h.has.rows_are in
      let low = cell_within saved.rows calc k (last_of (unsaved def.inputs) h.blocks).windows v are.windows_are is in
      listed_range None (rows_of_blocks h.blocks) calc k v
      (rows_ok c (length def.calcs.calcs) (unsaved def.inputs) (blocks_at (length text)) h.blocks h.has.blocks.blocks)
      (λ x e. absurd (cc (e)))
      (sym (are.values calc k (omega (arith, low.0, are.calcs_are)) low.1) ∙ is);
}

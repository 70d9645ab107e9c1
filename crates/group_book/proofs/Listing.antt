-- The cells that changed, listed one after the other.
use Rattle.std.proofs.Common.{◌≡◌, inl, inr, ◌⊎◌, ℕ, zero, suc, ◌+◌, ◌-◌, ◌<◌, ◌≤◌, true, false, List, [], ◌∷◌, ◌++◌, IfSome, IsSome, Option, None, Some, nat_eq, ◌&&◌, refl, sym, ◌∙◌, subst, arith, le-leb, if◌then◌else◌}
use Rattle.std.proofs.lemmas.Bool.Decides.{nat_tests}
use Rattle.std.proofs.lemmas.List.Elements.{All-push}
use Rattle.std.proofs.lemmas.List.Quantifiers.{all_pairs_push}
use Rattle.trend_num.specs.declared.value.Bad.TheVariants.{NoData, DivZero, Range}
use Rattle.trend_num.specs.{CalcValue}
use Rattle.trend_num.specs.declared.value.CalcValue.TheVariants.{Num, Bad}
use Rattle.sheet_law.specs.{IsInRange, column}
use Rattle.group_layout.specs.{BlockRow, IsBefore, IsRow, comes_before, cell_of, listed_from, value_of}
use Rattle.group_layout.proofs.SavedRows.{listed-append}
use Rattle.group_book.specs.{HasAllChanges, IsListed, IsOther, IsSame, ListedUpTo, ListsChanges, row_of}
use Rattle.group_book.proofs.Columns.{same_cells}

-- ---- places in order

-- what comes before the next place comes before this one, or is this one
before_next : (x y calc k : ℕ) → comes_before x y calc (k + 1) ≡ true
    → (comes_before x y calc k ≡ true) ⊎ ((x ≡ calc) × (y ≡ k))
before_next x y calc k before = grind (arith, nat_tests)

-- this one does not come before itself
before_self : (calc k : ℕ) → comes_before calc k calc k ≡ false
before_self calc k = grind (arith, nat_tests)

-- what does not come before the next place does not come before this one, and is not this one
not_next : (x y calc k : ℕ) → comes_before x y calc (k + 1) ≡ false → comes_before x y calc k ≡ false
not_next x y calc k absent = grind (arith, nat_tests)

later_place : (x y calc k : ℕ) → comes_before x y calc k ≡ true → comes_before x y calc (k + 1) ≡ true
later_place x y calc k before = grind (arith, nat_tests)

here_next : (calc k : ℕ) → comes_before calc k calc (k + 1) ≡ true
here_next calc k = grind (arith, nat_tests)

-- the next calculation
before_calc : (x y calc windows : ℕ) → y < windows → comes_before x y (calc + 1) 0 ≡ true → comes_before x y calc windows ≡ true
before_calc x y calc windows low before = grind (arith, nat_tests)

not_calc : (x y calc windows : ℕ) → comes_before x y (calc + 1) 0 ≡ false → comes_before x y calc windows ≡ false
not_calc x y calc windows absent = grind (arith, nat_tests)

after_calc : (x y calc windows : ℕ) → comes_before x y calc windows ≡ true → comes_before x y (calc + 1) 0 ≡ true
after_calc x y calc windows before = grind (arith, nat_tests)

-- nothing comes before the first place, and each place of a calculation before the end
none_first : (x y : ℕ) → comes_before x y 0 0 ≡ false
none_first x y = grind (arith, nat_tests)

all_last : (x y calcs : ℕ) → x < calcs → comes_before x y calcs 0 ≡ true
all_last x y calcs low = grind (arith, nat_tests)

-- another place than this one
other_before : (x y calc k : ℕ) → comes_before x y calc k ≡ true → (nat_eq calc x && nat_eq k y) ≡ false
other_before x y calc k before = grind (arith, nat_tests)

other_behind : (x y calc k : ℕ) → comes_before x y calc (k + 1) ≡ false → (nat_eq calc x && nat_eq k y) ≡ false
other_behind x y calc k absent = grind (arith, nat_tests)

here_at : (calc k : ℕ) → (nat_eq calc calc && nat_eq k k) ≡ true
here_at calc k = grind (arith, nat_tests)

-- ---- one row

row_calc : (calc k : ℕ) (v : CalcValue) → (row_of calc k v).calc ≡ calc
row_calc calc k (Num n) = refl
row_calc calc k (Bad NoData) = refl
row_calc calc k (Bad DivZero) = refl
row_calc calc k (Bad Range) = refl

row_window : (calc k : ℕ) (v : CalcValue) → (row_of calc k v).window ≡ k
row_window calc k (Num n) = refl
row_window calc k (Bad NoData) = refl
row_window calc k (Bad DivZero) = refl
row_window calc k (Bad Range) = refl

row_value : (calc k : ℕ) (v : CalcValue) → value_of (row_of calc k v) ≡ v
row_value calc k (Num n) = refl
row_value calc k (Bad NoData) = refl
row_value calc k (Bad DivZero) = refl
row_value calc k (Bad Range) = refl

-- a value in range makes a row
row_is : (calcs windows calc k : ℕ) (v : CalcValue) → calc < calcs → k < windows → IsInRange v → IsRow calcs windows (row_of calc k v)
row_is calcs windows calc k (Num n) low within in_range = record { calc = low; window = within; kind = omega arith; value = le-leb _ _ in_range }
row_is calcs windows calc k (Bad NoData) low within in_range = record { calc = low; window = within; kind = omega arith; value = refl }
row_is calcs windows calc k (Bad DivZero) low within in_range = record { calc = low; window = within; kind = omega arith; value = refl }
row_is calcs windows calc k (Bad Range) low within in_range = record { calc = low; window = within; kind = omega arith; value = refl }

-- a row after others
listed_push : (rows : List BlockRow) (calc k x y : ℕ) (v : CalcValue)
    → listed_from None (rows ++ row_of calc k v ∷ []) x y ≡ (if nat_eq calc x && nat_eq k y then Some v else listed_from None rows x y)
listed_push rows calc k x y v = grind (arith, listed-append, row_calc, row_window, row_value)

-- at another place, and at its own
listed_other : (rows : List BlockRow) (calc k x y : ℕ) (v : CalcValue) → (nat_eq calc x && nat_eq k y) ≡ false
    → listed_from None (rows ++ row_of calc k v ∷ []) x y ≡ listed_from None rows x y
listed_other rows calc k x y v absent = grind (arith, listed_push)

listed_here : (rows : List BlockRow) (calc k : ℕ) (v : CalcValue) → listed_from None (rows ++ row_of calc k v ∷ []) calc k ≡ Some v
listed_here rows calc k v = grind (arith, listed_push, here_at)

-- ---- one cell after the other

-- rows that list the same of a cell
listed_as : (old new : List (List CalcValue)) (rows rows' : List BlockRow) (x y : ℕ)
    → listed_from None rows' x y ≡ listed_from None rows x y → IsListed old new rows x y → IsListed old new rows' x y
listed_as old new rows rows' x y same (IsSame kept none) = IsSame kept (same ∙ none)
listed_as old new rows rows' x y same (IsOther changed is) = IsOther changed (same ∙ is)

-- nothing is listed at first
pub list_none : (old new : List (List CalcValue)) (calcs windows : ℕ) → ListedUpTo old new calcs windows 0 0 []
list_none old new calcs windows = grind (arith, none_first)

module _ (old new : List (List CalcValue)) (calcs windows calc k : ℕ) (rows : List BlockRow)
    (so_far : ListedUpTo old new calcs windows calc k rows) where
  -- a cell that did not change
  pub list_kept : cell_of new calc k ≡ cell_of old calc k → ListedUpTo old new calcs windows calc (k + 1) rows
  list_kept same = grind (arith, before_next, before_self, not_next, later_place)

  -- one that did
  pub list_added : (v : CalcValue) → calc < calcs → k < windows → cell_of new calc k ≡ Some v
      → (cell_of new calc k ≡ cell_of old calc k → ⊥)
      → ListedUpTo old new calcs windows calc (k + 1) (rows ++ row_of calc k v ∷ [])
  list_added v calc_low k_low is changed = record {
    before = grind (arith, before_next, listed_as, listed_other, other_before, listed_here);
    behind = λ x y absent. listed_other rows calc k x y v (other_behind x y calc k absent) ∙ so_far.behind x y (not_next x y calc k absent);
    each = λ in_range. All-push (IsRow calcs windows) rows (row_of calc k v) (so_far.each in_range)
        (row_is calcs windows calc k v calc_low k_low (in_range.each calc k v is));
    sorted = all_pairs_push IsBefore rows (row_of calc k v) so_far.sorted (λ i d low. grind (arith, row_calc, row_window));
    low = All-push (λ r. comes_before r.calc r.window calc (k + 1) ≡ true) rows (row_of calc k v)
        (grind (arith, later_place))
        (grind (arith, row_calc, row_window, here_next));
  }

-- the next calculation
pub list_next : (old new : List (List CalcValue)) (calcs windows calc : ℕ) (rows : List BlockRow)
    → ListedUpTo old new calcs windows calc windows rows → ListedUpTo old new calcs windows (calc + 1) 0 rows
list_next old new calcs windows calc rows so_far = grind (arith, before_calc, not_calc, after_calc)

-- all are listed
pub list_all_cells : (old new : List (List CalcValue)) (calcs windows : ℕ) (rows : List BlockRow)
    → ListedUpTo old new calcs windows calcs 0 rows → ListsChanges calcs windows old new rows
list_all_cells old new calcs windows rows so_far = grind (arith, all_last)

-- one cell, whether or not it changed
pub list_cell : (old new : List (List CalcValue)) (calcs windows calc k : ℕ) (rows rows' : List BlockRow) (now was : Option CalcValue)
    → ListedUpTo old new calcs windows calc k rows → calc < calcs → k < windows → now ≡ cell_of new calc k → was ≡ cell_of old calc k
    → IsSome now
    → (((now ≡ was) × (rows' ≡ rows)) ⊎ ((now ≡ was → ⊥) × IfSome now (λ v. rows' ≡ rows ++ row_of calc k v ∷ [])))
    → ListedUpTo old new calcs windows calc (k + 1) rows'
list_cell old new calcs windows calc k rows rows' now was so_far calc_low k_low now_is was_is some (inl same) =
    subst (ListedUpTo old new calcs windows calc (k + 1)) (sym same.1)
    (list_kept old new calcs windows calc k rows so_far (sym now_is ∙ same.0 ∙ was_is))
list_cell old new calcs windows calc k rows rows' (Some v) was so_far calc_low k_low now_is was_is some (inr changed) =
    subst (ListedUpTo old new calcs windows calc (k + 1)) (sym changed.1)
    (list_added old new calcs windows calc k rows so_far v calc_low k_low (sym now_is)
    (λ e. changed.0 (now_is ∙ e ∙ sym was_is)))
list_cell old new calcs windows calc k rows rows' None was so_far calc_low k_low now_is was_is some (inr changed) = absurd (cc (some))

-- ---- one window after the other

-- windows that did not change
list_passed : (old new : List (List CalcValue)) (calcs windows calc k n : ℕ) (rows : List BlockRow)
    → ListedUpTo old new calcs windows calc k rows → ((j : ℕ) → k ≤ j → j < k + n → column j old ≡ column j new)
    → ListedUpTo old new calcs windows calc (k + n) rows
list_passed old new calcs windows calc k zero rows so_far same =
    (let end : k ≡ k + 0 = omega arith in subst (λ j. ListedUpTo old new calcs windows calc j rows) end so_far)
list_passed old new calcs windows calc k (suc n) rows so_far same =
    let end : k + n + 1 ≡ k + suc n = omega arith in
    let before = list_passed old new calcs windows calc k n rows so_far (λ j low below. same j low (omega arith)) in
    subst (λ j. ListedUpTo old new calcs windows calc j rows) end
    (list_kept old new calcs windows calc (k + n) rows before
    (sym (same_cells old new calc (k + n) (same (k + n) (omega arith) (omega arith)))))

-- what changed in a calculation is listed up to a place, and no window behind it has changed but these
pub record ListedBefore (old new : List (List CalcValue)) (calcs windows calc : ℕ) (ahead : List ℕ) (rows : List BlockRow) : Type 0 where
  pub place : ℕ
  pub within : place ≤ windows
  pub so_far : ListedUpTo old new calcs windows calc place rows
  pub changes : HasAllChanges old new place windows ahead

module _ (old new : List (List CalcValue)) (calcs windows calc : ℕ) (rows : List BlockRow) where
  pub list_begun : (ks : List ℕ) → ListedUpTo old new calcs windows calc 0 rows → HasAllChanges old new 0 windows ks
      → ListedBefore old new calcs windows calc ks rows
  list_begun ks so_far changes = record { place = 0; within = omega arith; so_far = so_far; changes = changes }

  -- the next of them
  pub list_window : (k : ℕ) (ks : List ℕ) (rows' : List BlockRow) (now was : Option CalcValue)
      → ListedBefore old new calcs windows calc (k ∷ ks) rows → calc < calcs → now ≡ cell_of new calc k → was ≡ cell_of old calc k
      → (k < windows → IsSome now)
      → (((now ≡ was) × (rows' ≡ rows)) ⊎ ((now ≡ was → ⊥) × IfSome now (λ v. rows' ≡ rows ++ row_of calc k v ∷ [])))
      → ListedBefore old new calcs windows calc ks rows'
  list_window k ks rows' now was before calc_low now_is was_is some added =
      let low = before.changes.0 in
      let end : before.place + (k - before.place) ≡ k = omega arith in
      let here = subst (λ j. ListedUpTo old new calcs windows calc j rows) end
      (list_passed old new calcs windows calc before.place (k - before.place) rows before.so_far
      (λ j from below. before.changes.2 j from (omega arith))) in
      record {
        place = k + 1;
        within = omega (arith, before.changes.1);
        so_far = list_cell old new calcs windows calc k rows rows' now was here calc_low before.changes.1 now_is was_is
            (some before.changes.1) added;
        changes = before.changes.3;
      }

  -- behind the last of them nothing has changed
  pub list_ended : ListedBefore old new calcs windows calc [] rows → ListedUpTo old new calcs windows (calc + 1) 0 rows
  list_ended before =
      let end : before.place + (windows - before.place) ≡ windows = omega (arith, before.within) in
      list_next old new calcs windows calc rows (subst (λ j. ListedUpTo old new calcs windows calc j rows) end
      (list_passed old new calcs windows calc before.place (windows - before.place) rows before.so_far
      (λ j from below. before.changes j from (omega arith))))

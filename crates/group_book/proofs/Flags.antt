-- The flags of the windows that refreshes have evaluated since the last save.
use Rattle.std.proofs.Common.{◌≡◌, ℕ, ◌+◌, ◌<◌, ◌≤◌, inl, inr, Bool, true, false, Contains, List, [], length, replicate, refl, sym, ap, ap₂, ◌∙◌, subst, arith}
use Rattle.std.specs.List.{filter, range_with_len}
use Rattle.std.proofs.lemmas.Bool.{cases_Bool, false≢true, or_parts}
use Rattle.std.proofs.lemmas.List.{get_or_past, length-replicate}
use Rattle.std.proofs.lemmas.List.Elements.{All-replicate}
use Rattle.trend_num.specs.{Rec, CalcValue}
use Rattle.sheet_law.specs.{column, is_due, complete_windows}
use Rattle.sheet_law.proofs.Complete.{complete_grow}
use Rattle.calc_refresh.specs.{IsRefreshed, AreRowsWhole, SheetState}
use Rattle.calc_refresh.proofs.Passing.{passing_has}
use Rattle.group_book.specs.{HasAllChanges, AreFlagged, is_unsaved}
use Rattle.group_book.proofs.Columns.{all_changes}

-- without windows there are no flags
pub flagged_fresh : (flags : List Bool) (saved : List (List CalcValue)) (s : SheetState) → flags ≡ []
    → saved ≡ replicate (length s.group.calcs) [] → AreFlagged flags saved s
flagged_fresh flags saved s none empty =
    subst (λ f. AreFlagged f saved s) (sym none) (subst (λ l. AreFlagged [] l s) (sym empty) (record {
      calcs = length-replicate (length s.group.calcs) [];
      windows = All-replicate (λ (row : List CalcValue). length row ≡ 0) (length s.group.calcs) [] refl;
      few = omega arith;
      kept = λ k unset. absurd (false≢true (sym unset));
    }))

-- where the rows are those that were saved no flag is set
pub flagged_saved : (flags : List Bool) (saved : List (List CalcValue)) (s : SheetState)
    → flags ≡ replicate (complete_windows s.grid s.copies) false → saved ≡ s.rows → AreRowsWhole s → AreFlagged flags saved s
flagged_saved flags saved s clear same whole = grind (arith, length-replicate)

-- a window whose flag is not set has a flag
has_flag : (flags : List Bool) (k : ℕ) → is_unsaved flags k ≡ false → k < length flags
has_flag flags k unset = grind (arith, false≢true, get_or_past)

-- a refresh sets the flags of the windows that it evaluates
module _ (s t : SheetState) (mores : List (List Rec)) (refreshed : IsRefreshed s t mores) (some : 0 < s.grid.period) where
  grown : complete_windows s.grid s.copies ≤ complete_windows t.grid t.copies
  grown = omega (arith, complete_grow s.grid s.copies mores some, ap₂ complete_windows refreshed.grid refreshed.copies)

  -- a window that was complete and is not told keeps its values
  untold_same : (k : ℕ) → k < complete_windows s.grid s.copies → (Contains t.due k → ⊥) → column k t.rows ≡ column k s.rows
  untold_same k within untold = elim (cases_Bool (is_due s.grid s.copies mores k)) [
    | inl due ↦
        absurd (untold (subst (λ l. Contains l k) (sym refreshed.due_told)
        (passing_has (is_due s.grid s.copies mores) (complete_windows t.grid t.copies) k (omega (arith, within, grown)) due)))
    | inr not_due ↦ refreshed.others k within (or_parts _ _ not_due).1
  ]

  pub flagged_refreshed : (flags flags' : List Bool) (saved : List (List CalcValue)) (due : List ℕ) → AreFlagged flags saved s
      → due ≡ t.due → length flags' ≡ length flags → ((k : ℕ) → Contains due k → is_unsaved flags' k ≡ true)
      → ((k : ℕ) → (Contains due k → ⊥) → is_unsaved flags' k ≡ is_unsaved flags k) → AreFlagged flags' saved t
  flagged_refreshed flags flags' saved due was is long set others =
      grind (arith, grown, false≢true, untold_same, has_flag)

-- no window has changed since the last save but those that are listed
pub flagged_changes : (flags flags' : List Bool) (saved saved' rows' : List (List CalcValue)) (s : SheetState) (n : ℕ)
    (listed listed' : List ℕ) → AreFlagged flags saved s → flags' ≡ flags → n ≡ complete_windows s.grid s.copies
    → listed ≡ filter (is_unsaved flags') (range_with_len 0 n) → listed' ≡ listed → saved' ≡ saved → rows' ≡ s.rows
    → HasAllChanges saved' rows' 0 n listed'
flagged_changes flags flags' saved saved' rows' s n listed listed' was same windows are given old new =
    let end : 0 + n ≡ n = omega arith in
    let test = is_unsaved flags in
    let is : listed' ≡ filter test (range_with_len 0 n) = given ∙ (are ∙ ap (λ f. filter (is_unsaved f) (range_with_len 0 n)) same) in
    subst (λ l. HasAllChanges saved' rows' 0 n l) (sym is)
    (subst (λ l. HasAllChanges l rows' 0 n (filter test (range_with_len 0 n))) (sym old)
    (subst (λ l. HasAllChanges saved l 0 n (filter test (range_with_len 0 n))) (sym new)
    (subst (λ to. HasAllChanges saved s.rows 0 to (filter test (range_with_len 0 n))) end
    (all_changes saved s.rows test 0 n was.kept))))

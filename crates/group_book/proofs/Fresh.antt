-- A book that was just made.
use Rattle.std.proofs.Common.{arith, ◌≡◌, ℕ, zero, suc, ◌≤◌, false, List, [], ◌∷◌, length, map, replicate, None, refl, sym, ap, ◌∙◌}
use Rattle.std.proofs.lemmas.List.{length-replicate}
use Rattle.trend_num.specs.{Rec}
use Rattle.calc_refresh.specs.{GroupDefParts, lists_of, fresh, AreRowsWhole, IsGrid, IsGroup, SheetState, grid_of}
use Rattle.sheet_law.specs.{IsScratch}
use Rattle.group_book.specs.{GroupOpening, IsBookSafe, AreRowsEvaluated, IsBookLegal, cut, IsDefined, IsKept, LeftOf, Saved}
use Rattle.group_book.proofs.Cuts.{cut-all}
use Rattle.group_book.proofs.Evaluations.{evaluated_first}

-- so many empty copies have version 0
empty_versions : (n : ℕ) → map length (replicate {A = List Rec} n []) ≡ replicate n 0
empty_versions zero = refl
empty_versions (suc n) = ap (λ l. 0 ∷ l) (empty_versions n)

module _ (def made : GroupDefParts) (same : made ≡ def) (o : GroupOpening) (s : SheetState) (vs : List ℕ) (saved : Saved)
    (is : s ≡ fresh def.calcs (grid_of def.start def.period) (replicate def.inputs []) (replicate (length def.calcs.calcs) []))
    (scratch : IsScratch s.group s.grid s.copies s.rows)
    (vs_are : vs ≡ replicate def.inputs 0) (opened : o.versions.items ≡ replicate def.inputs 0)
    (opened_rows : lists_of o.rows.items ≡ replicate (length def.calcs.calcs) [])
    (saved_versions : saved.versions ≡ replicate def.inputs 0)
    (saved_rows : saved.rows ≡ replicate (length def.calcs.calcs) []) where
  -- the copies have these versions
  copied : map length s.copies ≡ replicate def.inputs 0
  copied = ap (λ x. map length x.copies) is ∙ empty_versions def.inputs

  -- the rows are from scratch
  from_scratch : IsScratch made.calcs (grid_of made.start made.period) s.copies s.rows
  from_scratch = grind arith

  -- cut to version 0 the copies are all there is
  cut_now : (us : List ℕ) → us ≡ replicate def.inputs 0 → cut us s.copies ≡ s.copies
  cut_now us are = ap (λ x. cut x s.copies) (are ∙ sym copied) ∙ cut-all s.copies

  pub fresh_defined : (tags : List ℕ) → IsGroup def.inputs def.calcs → IsGrid (grid_of def.start def.period)
      → length tags ≡ def.inputs → IsDefined made tags s
  fresh_defined tags group grid long = grind (arith, length-replicate)

  pub fresh_legal : IsBookLegal made.calcs (grid_of made.start made.period) o [] vs s.copies s.rows
  fresh_legal = record {
    turns = tt;
    last = vs_are ∙ sym opened;
    copied = vs_are ∙ sym copied;
    scratch = λ right. from_scratch;
  }

  pub fresh_evaluated : AreRowsWhole s → AreRowsEvaluated made.calcs (grid_of made.start made.period) o [] s.copies s.rows s.evals
  fresh_evaluated whole = grind (arith, evaluated_first, copied)

  pub fresh_kept : AreRowsWhole s → (text : List ℕ) (ticks faults : ℕ) → o.moment ≤ ticks → faults ≡ o.faults
      → IsKept text made o [] s.copies saved false None ticks faults
  fresh_kept whole text ticks faults before none =
      grind (arith, cut_now, fresh_evaluated, from_scratch, length-replicate)

  pub fresh_safe : (text : List ℕ) → IsBookSafe text made.calcs (grid_of made.start made.period) o s.copies [] (LeftOf None)
  fresh_safe text = record { images = λ t c since left. absurd left }

-- Rows that a tape lacks are put, one after another.
use Rattle.std.proofs.Common.{◌≡◌, ℕ, ◌+◌, ◌<◌, List, length, sym, ap, ◌∙◌, subst, arith}
use Rattle.std.specs.Prelude.{Some, Vec, slice_get, slice_index, slice_set}
use Rattle.std.specs.declared.alloc.Global.{Global}
use Rattle.std.proofs.lemmas.Option.{slice_get_within}
use Rattle.value_rows.specs.{RawRow}
use Rattle.commit_log.specs.{LogTurn, LogRow, ToldLog}
use Rattle.plant_more.specs.{row_lists_of, AreRowsFor, IsRowPut}
use Rattle.plant_more.specs.LogFinding.{AreFound, next_of, rows_in}
use Rattle.plant_more.proofs.LogFound.{one_found}
use Rattle.plant_more.proofs.LogRows.{IsGoodRow, files_length, good_row}

module _ (files : List (Vec RawRow Global)) (collector : ℕ) (row : LogRow) (place : ℕ) (known : collector < length files)
    (is : slice_get (rows_in (row_lists_of files) collector) place ≡ Some row) where
  -- the row at a place of a file is good
  pub row_good : (tags : ℕ) → AreRowsFor tags (row_lists_of files) → IsGoodRow tags collector row
  row_good tags rows = good_row tags collector place (row_lists_of files) row (omega (arith, files_length files, known)) rows is
      (slice_get_within (rows_in (row_lists_of files) collector) place row is)

  -- and once it is put it is found
  pub row_found : {D : Type 0} (old new : ToldLog D) (next next' : List ℕ) → AreRowsFor old.tags (row_lists_of files)
      → AreFound (row_lists_of files) old.tape next → place ≡ slice_index next collector → IsRowPut row old new
      → next' ≡ slice_set next collector (slice_index next collector + 1) → AreFound (row_lists_of files) new.tape next'
  row_found old new next next' rows found here put changed =
      let own : row.collector ≡ collector = (row_good old.tags rows).collector_is in
      subst (λ (t : List LogTurn). AreFound (row_lists_of files) t next') (sym (ap (λ (l : ToldLog _). l.tape) put))
      (one_found (row_lists_of files) old.tape row next next' found (record {
        there = omega (arith, own, known, found.as_many, files_length files);
        due = ap (λ (c : ℕ). next_of (row_lists_of files) next c) own ∙ (ap (λ (n : ℕ). slice_get (rows_in (row_lists_of files) collector) n) (sym here) ∙ is);
        changed = changed ∙ ap (λ (c : ℕ). slice_set next c (slice_index next c + 1)) (sym own);
      }))

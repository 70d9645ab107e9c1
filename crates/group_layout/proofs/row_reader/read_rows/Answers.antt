use Rattle.std.proofs.Common.{◌+◌, ◌∷◌, [], All, length, sym, ap, ◌∙◌, subst, arith, length-append}
use Rattle.std.proofs.lemmas.Result.{err_from_is_err_and}
use Rattle.std.proofs.lemmas.List.Elements.{All-push}
use Rattle.archive_file.proofs.Joins.{images_push}
use Rattle.archive_file.specs.{Spells}
use Rattle.group_layout.specs.{IsRow, row_image, rows_image}
use Rattle.archive_file.proofs.FieldLaws.{spells_both, told_through}
use Rattle.group_layout.proofs.RowLaws.{row_breaks, row_more, sorted_push}
use Rattle.group_layout.proofs.row_reader.read_rows.Goals as goal

pub returns-in_err-row-clause-damaged : goal.returns-in_err-row-clause-damaged
returns-in_err-row-clause-damaged g c = λ a byte told.
    let x = c.args in
    let out = err_from_is_err_and c.from_residual.result c.from_residual.ensures.1 in
    row_breaks g.C.Rest.rest x.calcs x.windows x.at c.loop.next x.count c.loop.counter c.loop.last c.loop-test.true
    c.loop.invariant.kept a byte
    (c.in_err-row.ensures.damaged a byte (told_through c.from_residual.result out.0 _ a byte out.1 out.2 told))

pub loop-preserved : goal.loop-preserved
loop-preserved g c =
    let x = c.args in
    let rows = c.loop.rows.items in
    let r = c.in_ok-row.row in
    let pushed = c.in-Ok.ensures.items in
    record {
      place = omega arith;
      within = omega (arith, c.in_ok-row.ensures.spelled.within);
      below = omega arith;
      len = omega (arith, ap length pushed, length-append rows (r ∷ []));
      spelled = subst (λ bytes. Spells g.C.Rest.rest x.at bytes (c.loop.next + 17))
          (sym (ap rows_image pushed ∙ images_push row_image rows r))
          (spells_both g.C.Rest.rest x.at c.loop.next (c.loop.next + 17) (rows_image rows) (row_image r) c.loop.invariant.spelled
          c.in_ok-row.ensures.spelled);
      each = subst (All (IsRow x.calcs x.windows)) (sym pushed)
          (All-push (IsRow x.calcs x.windows) rows r c.loop.invariant.each c.in_ok-row.ensures.row);
      sorted = grind (arith, sorted_push);
      last = record { is_last = (rows, pushed) };
      kept = grind (arith, row_more);
    }

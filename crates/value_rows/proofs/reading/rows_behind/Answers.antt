use Rattle.std.proofs.Common.{◌≡◌, IfErr, IfOk, Ok}
use Rattle.value_rows.specs.{AreRefusedFor}
use Rattle.value_rows.proofs.Wide.{rows_of_cut}
use Rattle.value_rows.proofs.reading.rows_behind.Goals as goal

pub returns-clause-rows : goal.returns-clause-rows
returns-clause-rows g c =
    let form = c.args.form.now in
    rows_of_cut (g.F.Form.row_of form) (g.met.F.Form.refuses_wide form)
    (λ read. IfOk c.whole_rows_behind.result (λ rows. read ≡ Ok rows.items))
    c.args.most c.args.front.items c.args.bytes.now c.narrow.result.now c.narrow.ensures.agree c.whole_rows_behind.ensures.rows

pub returns-clause-refused : goal.returns-clause-refused
returns-clause-refused g c =
    let form = c.args.form.now in
    rows_of_cut (g.F.Form.row_of form) (g.met.F.Form.refuses_wide form)
    (λ read. IfErr c.whole_rows_behind.result (AreRefusedFor read))
    c.args.most c.args.front.items c.args.bytes.now c.narrow.result.now c.narrow.ensures.agree c.whole_rows_behind.ensures.refused

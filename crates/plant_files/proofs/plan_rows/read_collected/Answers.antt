use Rattle.std.proofs.Common.{map}
use Rattle.std.proofs.lemmas.Result.{err_from_is_err_and}
use Rattle.plant_files.specs.PlanRows.{OfMany, OfReading}
use Rattle.plant_files.proofs.plan_rows.read_collected.Goals as goal

pub returns-in_err-read-clause-refused : goal.returns-in_err-read-clause-refused
returns-in_err-read-clause-refused g c =
    let p = err_from_is_err_and c.from_residual.result c.from_residual.ensures.1 in
    rw (p.1, p.2) (OfReading c.in_err-read.ensures.refused)

pub returns-in_err-check_row_count-clause-refused : goal.returns-in_err-check_row_count-clause-refused
returns-in_err-check_row_count-clause-refused g c =
    let read = c.in_ok-read.read in
    let p = err_from_is_err_and c.from_residual-in_err-check_row_count.result c.from_residual-in_err-check_row_count.ensures.1 in
    rw (p.1, p.2) (OfMany read.base read.plan (map (λ list. list.items) read.rows.items) c.in_ok-read.ensures.read
    (rw (← c.deref.ensures.value) c.in_err-check_row_count.ensures.refused))

use Rattle.std.proofs.Common.{All, Err, ap, map}
use Rattle.std.proofs.lemmas.List.Elements.{All-map}
use Rattle.std.proofs.lemmas.Result.{err_from_is_err_and}
use Rattle.plant_files.specs.{IsQueryOfBase}
use Rattle.plant_files.proofs.Faults.{of_reader}
use Rattle.plant_files.specs.PlanRows.{OfFiles, OfReader, OfRows}
use Rattle.plant_files.proofs.plan_rows.read_session.Goals as goal

pub returns-in_err-base-clause-refused : goal.returns-in_err-base-clause-refused
returns-in_err-base-clause-refused g c =
    let p = err_from_is_err_and c.from_residual.result c.from_residual.ensures.1 in
    rw (p.1, p.2) (OfFiles c.in_err-base.ensures.refused)

pub returns-in_err-queries-clause-refused : goal.returns-in_err-queries-clause-refused
returns-in_err-queries-clause-refused g c =
    let read = c.in_ok-base.field-0 in
    let of = c.in_ok-base.ensures in
    let p = err_from_is_err_and c.from_residual-in_err-queries.result c.from_residual-in_err-queries.ensures.1 in
    rw (p.1, p.2) (OfReader read.base read.plan (map (λ list. list.items) read.rows.items) of.read
    (rw (← of.stays) c.in_err-queries.ensures.refused))

pub returns-in_err-queries-clause-whose : goal.returns-in_err-queries-clause-whose
returns-in_err-queries-clause-whose g c =
    let read = c.in_ok-base.field-0 in
    let of = c.in_ok-base.ensures in
    let p = err_from_is_err_and c.from_residual-in_err-queries.result c.from_residual-in_err-queries.ensures.1 in
    rw (p.1, p.2) (of_reader c.args.name.now c.args.plan_name.now _ _ c.in_err-queries.field-0.0 read.base read.plan
    of.read.read of.read.planned (rw (← of.stays) c.in_err-queries.ensures.refused)
    (λ place same. c.in_err-queries.ensures.whose place (ap Err same)))

pub returns-in_err-check_row_count-clause-refused : goal.returns-in_err-check_row_count-clause-refused
returns-in_err-check_row_count-clause-refused g c =
    let read = c.in_ok-base.field-0 in
    let of = c.in_ok-base.ensures in
    let p = err_from_is_err_and c.from_residual-in_err-check_row_count.result c.from_residual-in_err-check_row_count.ensures.1 in
    rw (p.1, p.2) (OfRows read.base read.plan (map (λ list. list.items) read.rows.items)
    (map (λ list. list.items) c.in_ok-queries.queries.items) of.read
    (rw (← of.stays) c.in_ok-queries.ensures.queries)
    (rw (← c.deref.ensures.value) c.in_err-check_row_count.ensures.refused))

pub returns-clause-plan : goal.returns-clause-plan
returns-clause-plan g c =
    let of = c.in_ok-base.ensures in
    record {
      rows_of_tags = of.rows;
      queries_of_base = All-map (All (IsQueryOfBase c.in_ok-base.field-0.base)) (λ list. list.items) c.in_ok-queries.queries.items
          c.in_ok-queries.ensures.in_range;
      refreshers_of_groups = of.refreshers;
    }

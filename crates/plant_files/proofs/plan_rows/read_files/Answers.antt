use Rattle.std.proofs.Common.{arith, Err, ◌∙◌, ap}
use Rattle.std.proofs.lemmas.List.Elements.{All-map}
use Rattle.std.specs.Prelude.{All}
use Rattle.std.proofs.lemmas.Result.{err_from_is_err_and}
use Rattle.plant_files.specs.{IsRowOfBase}
use Rattle.plant_files.proofs.Distinct.{distinct_tags}
use Rattle.plant_files.proofs.Faults.{of_collector}
use Rattle.plant_files.specs.PlanRows.{OfCollector, OfPlan}
use Rattle.plant_files.proofs.plan_rows.read_files.Goals as goal

pub returns-in_err-base-clause-refused : goal.returns-in_err-base-clause-refused
returns-in_err-base-clause-refused g c = grind (arith, err_from_is_err_and)

pub returns-in_err-plan-clause-refused : goal.returns-in_err-plan-clause-refused
returns-in_err-plan-clause-refused g c =
    let p = err_from_is_err_and c.from_residual-in_err-plan.result c.from_residual-in_err-plan.ensures.1 in
    rw (p.1, p.2) (OfPlan c.in_ok-base.base c.in_ok-base.ensures.base (rw (← c.in_ok-base.ensures.stays) c.in_err-plan.ensures.refused))

pub returns-in_err-rows-clause-refused : goal.returns-in_err-rows-clause-refused
returns-in_err-rows-clause-refused g c =
    let stays = c.in_ok-plan.ensures.stays ∙ c.in_ok-base.ensures.stays in
    let p = err_from_is_err_and c.from_residual-in_err-rows.result c.from_residual-in_err-rows.ensures.1 in
    rw (p.1, p.2) (OfCollector c.in_ok-base.base c.in_ok-plan.plan c.in_ok-base.ensures.base
    (rw (← c.in_ok-base.ensures.stays) c.in_ok-plan.ensures.plan) (rw (← stays) c.in_err-rows.ensures.refused))

pub returns-in_err-rows-clause-whose : goal.returns-in_err-rows-clause-whose
returns-in_err-rows-clause-whose g c =
    let stays = c.in_ok-plan.ensures.stays ∙ c.in_ok-base.ensures.stays in
    let p = err_from_is_err_and c.from_residual-in_err-rows.result c.from_residual-in_err-rows.ensures.1 in
    rw (p.1, p.2) (of_collector c.args.name.now c.args.plan_name.now _ _ c.in_err-rows.field-0.0 c.in_ok-base.base c.in_ok-plan.plan
    c.in_ok-base.ensures.base (rw (← c.in_ok-base.ensures.stays) c.in_ok-plan.ensures.plan) (rw (← stays) c.in_err-rows.ensures.refused)
    (λ place same. c.in_err-rows.ensures.whose place (ap Err same)))

pub returns-clause-base : goal.returns-clause-base
returns-clause-base g c = grind (arith, distinct_tags)

pub returns-clause-rows : goal.returns-clause-rows
returns-clause-rows g c =
    All-map (All (IsRowOfBase c.in_ok-base.base)) (λ list. list.items) c.in_ok-rows.rows.items c.in_ok-rows.ensures.in_range

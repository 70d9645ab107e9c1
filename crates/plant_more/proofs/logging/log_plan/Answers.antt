use Rattle.std.proofs.Common.{◌∙◌, Result, String, ap, refl, subst, sym}
use Rattle.std.specs.Prelude.{IfErr}
use Rattle.std.specs.declared.alloc.Global.{Global}
use Rattle.plant_status.specs.declared.status.Status.{Status}
use Rattle.plant_files.specs.{IsFaultOfPlanned}
use Rattle.plant_files.specs.Reading.{faults_after}
use Rattle.plant_files.proofs.Faults.{of_none}
use Rattle.plant_more.specs.{row_lists_of, total_rows}
use Rattle.plant_more.specs.LogHeadline.{IsOfOthers, IsUnlogged, OfFiles, OfOpening}
use Rattle.plant_more.proofs.LogUnderstood.{after_unopened, err_weaker, no_file, no_read_fault, some_weaker, understood}
use Rattle.plant_more.proofs.logging.log_plan.Goals as goal

pub returns-in-Err-clause-unlogged : goal.returns-in-Err-clause-unlogged
returns-in-Err-clause-unlogged g c = λ none.
    let old = g.S.Store.device_at c.args.store.now in
    let faults = g.S.Store.fault_count c.args.store.now in
    subst (λ (r : Result (String Global) Status). IfErr r (IsUnlogged c.args.base.now c.args.plan.now (g.F.Files.told c.args.files.now)
    old old faults faults)) (sym c.refused.ensures.answer) (OfFiles c.in-Err.ensures.refused (λ n. refl))

pub returns-in-Err-clause-understood : goal.returns-in-Err-clause-understood
returns-in-Err-clause-understood g c =
    subst (λ (r : Result (String Global) Status). IfErr r (λ why. IsOfOthers why → ⊥)) (sym c.refused.ensures.answer)
    (no_file c.args.base.now c.args.plan.now (g.F.Files.told c.args.files.now) c.in-Err.why c.in-Err.ensures.refused)

pub returns-in-Err-clause-file_faults : goal.returns-in-Err-clause-file_faults
returns-in-Err-clause-file_faults g c = λ none.
    c.in-Err.ensures.faults ∙ ap (λ (r : Result (String Global) Status). faults_after r (g.F.Files.fault_count c.args.files.now))
    (sym c.refused.ensures.answer)

pub returns-in-Err-clause-whose : goal.returns-in-Err-clause-whose
returns-in-Err-clause-whose g c = λ none.
    subst (λ (r : Result (String Global) Status). IfErr r (IsFaultOfPlanned c.args.base.now c.args.plan.now
    (g.F.Files.told c.args.files.now) (g.F.Files.failed_name c.read_collected.new.files))) (sym c.refused.ensures.answer)
    c.in-Err.ensures.whose

pub returns-in-Ok-clause-log : goal.returns-in-Ok-clause-log
returns-in-Ok-clause-log g c =
    some_weaker c.log_read.result.log (λ h run. record {
      base = c.in-Ok.read.base;
      plan = c.in-Ok.read.plan;
      rows = row_lists_of c.in-Ok.read.rows.items;
      collected = c.in-Ok.ensures.collected;
      run = run;
    }) c.log_read.ensures.run

pub returns-in-Ok-clause-unlogged : goal.returns-in-Ok-clause-unlogged
returns-in-Ok-clause-unlogged g c = λ none.
    err_weaker c.log_read.result.answer (λ why is. OfOpening c.in-Ok.read.base c.in-Ok.read.plan (row_lists_of c.in-Ok.read.rows.items)
    c.in-Ok.ensures.collected is) (c.log_read.ensures.unopened none)

pub returns-in-Ok-clause-understood : goal.returns-in-Ok-clause-understood
returns-in-Ok-clause-understood g c =
    understood g.S.Dev.Disk.device c.in-Ok.read.base (row_lists_of c.in-Ok.read.rows.items)
    (g.S.Store.device_at c.args.store.now) (g.S.Store.device_at c.log_read.new.store) (g.S.Store.fault_count c.args.store.now)
    (g.S.Store.fault_count c.log_read.new.store) (g.P.Passes.stops c.args.passes.now) (g.P.Passes.stops c.log_read.new.passes)
    c.log_read.result.answer c.log_read.result.log c.log_read.ensures.run c.log_read.ensures.unopened

pub returns-in-Ok-clause-file_faults : goal.returns-in-Ok-clause-file_faults
returns-in-Ok-clause-file_faults g c = λ none.
    c.in-Ok.ensures.faults ∙ sym (after_unopened c.in-Ok.read.base (total_rows (row_lists_of c.in-Ok.read.rows.items))
    (g.S.Store.device_at c.args.store.now) (g.S.Store.device_at c.log_read.new.store) (g.S.Store.fault_count c.args.store.now)
    (g.S.Store.fault_count c.log_read.new.store) c.log_read.result.answer (g.F.Files.fault_count c.args.files.now)
    (c.log_read.ensures.unopened none))

pub returns-in-Ok-clause-whose : goal.returns-in-Ok-clause-whose
returns-in-Ok-clause-whose g c = λ none.
    err_weaker c.log_read.result.answer (λ why is. of_none c.args.base.now c.args.plan.now (g.F.Files.told c.args.files.now)
    (g.F.Files.failed_name c.read_collected.new.files) why
    (λ which same. no_read_fault c.in-Ok.read.base (total_rows (row_lists_of c.in-Ok.read.rows.items))
    (g.S.Store.device_at c.args.store.now) (g.S.Store.device_at c.log_read.new.store) (g.S.Store.fault_count c.args.store.now)
    (g.S.Store.fault_count c.log_read.new.store) why is which same)) (c.log_read.ensures.unopened none)

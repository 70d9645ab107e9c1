use Rattle.std.proofs.Common.{◌∙◌, Result, String, ap, inl, refl, subst, sym}
use Rattle.std.specs.Prelude.{IfErr}
use Rattle.std.specs.declared.alloc.Global.{Global}
use Rattle.plant_status.specs.declared.status.Status.{Status}
use Rattle.plant_files.specs.{IsFaultOfPlanned}
use Rattle.plant_files.specs.Reading.{faults_after}
use Rattle.plant_files.proofs.Faults.{of_none}
use Rattle.run_command.specs.Runs.{IsUnheld, OfFiles}
use Rattle.run_command.proofs.Results.{err_weaker}
use Rattle.run_command.proofs.Understood.{understood, unheld_no_words}
use Rattle.run_command.proofs.Unheld.{after_none}
use Rattle.run_command.proofs.run.run_plan.Goals as goal

pub returns-in-Err-clause-unheld : goal.returns-in-Err-clause-unheld
returns-in-Err-clause-unheld g c = λ none.
    let old = g.S.Store.device_at c.args.store.now in
    let faults = g.S.Store.fault_count c.args.store.now in
    subst (λ (r : Result (String Global) Status). IfErr r (IsUnheld c.args.name.now c.args.plan_name.now (g.F.Files.told c.args.files.now)
    old old faults faults)) (sym c.refused.ensures.answer) (OfFiles c.in-Err.ensures.refused (λ n. refl))

pub returns-in-Err-clause-file_faults : goal.returns-in-Err-clause-file_faults
returns-in-Err-clause-file_faults g c = λ none.
    c.in-Err.ensures.faults ∙ ap (λ (r : Result (String Global) Status). faults_after r (g.F.Files.fault_count c.args.files.now))
    (sym c.refused.ensures.answer)

pub returns-in-Err-clause-whose : goal.returns-in-Err-clause-whose
returns-in-Err-clause-whose g c = λ none.
    subst (λ (r : Result (String Global) Status). IfErr r (IsFaultOfPlanned c.args.name.now c.args.plan_name.now
    (g.F.Files.told c.args.files.now) (g.F.Files.failed_name c.read_session.new.files))) (sym c.refused.ensures.answer)
    c.in-Err.ensures.whose

pub returns-in-Ok-clause-file_faults : goal.returns-in-Ok-clause-file_faults
returns-in-Ok-clause-file_faults g c = λ none.
    c.in-Ok.ensures.faults ∙ sym (after_none c.run_read.result.answer (g.F.Files.fault_count c.args.files.now) (c.run_read.ensures.other none))

pub returns-in-Ok-clause-whose : goal.returns-in-Ok-clause-whose
returns-in-Ok-clause-whose g c = λ none. err_weaker c.run_read.result.answer
    (λ why other. of_none c.args.name.now c.args.plan_name.now (g.F.Files.told c.args.files.now)
    (g.F.Files.failed_name c.read_session.new.files) why other) (c.run_read.ensures.other none)

pub returns-in-Ok-clause-promised : goal.returns-in-Ok-clause-promised
returns-in-Ok-clause-promised g c =
    c.run_read.ensures.promised c.args.name.now c.args.plan_name.now (g.F.Files.told c.args.files.now) c.in-Ok.ensures.planned

pub returns-in-Ok-clause-understood : goal.returns-in-Ok-clause-understood
returns-in-Ok-clause-understood g c =
    let name = c.args.name.now in
    let plan_name = c.args.plan_name.now in
    let told = g.F.Files.told c.args.files.now in
    let store = c.args.store.now in
    let after = c.run_read.new.store in
    understood name plan_name told (g.S.Store.device_at store) (g.S.Store.device_at after) (g.S.Store.fault_count store)
    (g.S.Store.fault_count after) (g.P.Passes.stops c.args.passes.now) (g.P.Passes.stops c.run_read.new.passes) c.run_read.result.session
    c.run_read.result.answer (c.run_read.ensures.unheld name plan_name told c.in-Ok.ensures.planned)
    (returns-in-Ok-clause-promised g c)

pub returns-in-Err-clause-understood : goal.returns-in-Err-clause-understood
returns-in-Err-clause-understood g c =
    let name = c.args.name.now in
    let plan_name = c.args.plan_name.now in
    let told = g.F.Files.told c.args.files.now in
    let old = g.S.Store.device_at c.args.store.now in
    let faults = g.S.Store.fault_count c.args.store.now in
    rw c.refused.ensures.answer (λ same. unheld_no_words name plan_name told old old faults faults
    (subst (IsUnheld name plan_name told old old faults faults) same (OfFiles c.in-Err.ensures.refused (λ n. refl))))

pub returns-in-Err-clause-counts : goal.returns-in-Err-clause-counts
returns-in-Err-clause-counts g c = λ none few. rw c.refused.ensures.answer (inl refl)

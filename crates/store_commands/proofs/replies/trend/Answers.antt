use Rattle.std.proofs.Common.{◌≡◌, ℕ, Result, Ok, Err, String, [], inr, rules, refl, ◌∙◌, sym, ap, arith, length, map, subst}
use Rattle.std.specs.Prelude.{IfErr}
use Rattle.std.specs.declared.alloc.Global.{Global}
use Rattle.std.proofs.lemmas.List.{length-map}
use Rattle.std.proofs.lemmas.Result.{err_from_is_err_and}
use Rattle.plant_status.specs.declared.status.Status.{Status}
use Rattle.plant_status.specs.declared.status.Status.TheVariants.{WantOfMemory}
use Rattle.plant_files.specs.Reading.{faults_after, faults_told}
use Rattle.plant_files.proofs.Faults.{of_base, of_none, of_plan, of_reader}
use Rattle.plant_store.specs.Groups as group
use Rattle.plant_store.proofs.BookDevices.{same_untouched}
use Rattle.store_commands.specs.{rows_in, trend_text}
use Rattle.store_commands.specs.Commands.{OfGroup, OfMemory, OfPlan, OfReader, OfTag}
use Rattle.store_commands.specs.GroupRows.{AllGainSync, AreGroupsTold, IsGroupRowsRefusal, tag_records}
use Rattle.store_commands.proofs.Commands.{as_many_lists}
use Rattle.store_commands.proofs.Faults.{group_is_no_fault}
use Rattle.plant_store.proofs.MappedErrors.{new_error, still_ok}
use Rattle.plant_store.proofs.OpenedBases.{tag_is_no_fault}
use Rattle.store_commands.proofs.Stores.{all_kept, groups_same, left_after, rows_before, synced_before, tags_same, told_before}
use Rattle.store_commands.proofs.replies.trend.Goals as goal

pub returns-in_err-plan-clause-refused : goal.returns-in_err-plan-clause-refused
returns-in_err-plan-clause-refused g c =
    let base = c.in_ok-base.base in
    let p = err_from_is_err_and c.from_residual-in_err-plan.result c.from_residual-in_err-plan.ensures.1 in
    rw (p.1, p.2) (OfPlan base c.in_ok-base.ensures.base (rw (← c.in_ok-base.ensures.stays) c.in_err-plan.ensures.refused) (λ n. refl))

pub returns-in_err-readers-clause-refused : goal.returns-in_err-readers-clause-refused
returns-in_err-readers-clause-refused g c =
    let base = c.in_ok-base.base in
    let plan = c.in_ok-plan.plan in
    let stays = c.in_ok-plan.ensures.stays ∙ c.in_ok-base.ensures.stays in
    let p = err_from_is_err_and c.from_residual-in_err-readers.result c.from_residual-in_err-readers.ensures.1 in
    rw (p.1, p.2) (OfReader base plan c.in_ok-base.ensures.base (rw (← c.in_ok-base.ensures.stays) c.in_ok-plan.ensures.plan)
    (rw (← stays) c.in_err-readers.ensures.refused) (λ n. refl))

pub returns-in_err-cores-clause-refused : goal.returns-in_err-cores-clause-refused
returns-in_err-cores-clause-refused g c =
    let base = c.in_ok-base.base in
    let plan = c.in_ok-plan.plan in
    let stays = c.in_ok-plan.ensures.stays ∙ c.in_ok-base.ensures.stays in
    let p = err_from_is_err_and c.from_residual-in_err-cores.result c.from_residual-in_err-cores.ensures.1 in
    rw (p.1, p.2) (OfTag base plan (map (λ list. list.items) c.in_ok-readers.readers.items) c.in_ok-base.ensures.base
    (rw (← c.in_ok-base.ensures.stays) c.in_ok-plan.ensures.plan) (rw (← stays) c.in_ok-readers.ensures.queries)
    c.in_err-cores.ensures.refused)

pub returns-in_err-groups-clause-refused : goal.returns-in_err-groups-clause-refused
returns-in_err-groups-clause-refused g c =
    let base = c.in_ok-base.base in
    let plan = c.in_ok-plan.plan in
    let cores = c.in_ok-cores.cores.items in
    let old = g.S.Store.device_at c.args.store.now in
    let mid = g.S.Store.device_at c.open_base.new.store in
    let stays = c.in_ok-plan.ensures.stays ∙ c.in_ok-base.ensures.stays in
    let refused = subst (λ l. IsGroupRowsRefusal l (tag_records c.deref-2.result.now) mid (g.S.Store.device_at c.histories_of.new.store) (g.S.Store.fault_count c.open_base.new.store)
    (g.S.Store.fault_count c.histories_of.new.store) c.in_err-groups.field-0.0) c.deref.ensures.value
    c.in_err-groups.ensures.refused in
    let refused_cores = subst (λ l. IsGroupRowsRefusal base.groups.items (tag_records l) mid (g.S.Store.device_at c.histories_of.new.store) (g.S.Store.fault_count c.open_base.new.store)
    (g.S.Store.fault_count c.histories_of.new.store) c.in_err-groups.field-0.0) c.deref-2.ensures.value refused in
    let p = err_from_is_err_and c.from_residual-in_err-groups.result c.from_residual-in_err-groups.ensures.1 in
    rw (p.1, p.2) (OfGroup base plan (map (λ list. list.items) c.in_ok-readers.readers.items) cores
    (record { read = c.in_ok-base.ensures.base; opened = c.in_ok-cores.ensures.opened; few = c.in_ok-cores.ensures.few_records })
    (rw (← c.in_ok-base.ensures.stays) c.in_ok-plan.ensures.plan) (rw (← stays) c.in_ok-readers.ensures.queries)
    (rows_before base.groups.items (tag_records cores) old mid (groups_same base.tags.items old mid c.open_base.ensures.others) _ _ _ _
    c.in_err-groups.field-0.0 c.in_ok-cores.ensures.counts refused_cores))

pub returns-in_err-cores-clause-kept : goal.returns-in_err-cores-clause-kept
returns-in_err-cores-clause-kept g c =
    let base = c.in_ok-base.base in
    inr (
      base,
      c.in_ok-base.ensures.base,
      c.open_base.ensures.same,
      same_untouched base.groups.items [] (g.S.Store.device_at c.args.store.now) (g.S.Store.device_at c.open_base.new.store)
          (groups_same base.tags.items (g.S.Store.device_at c.args.store.now) (g.S.Store.device_at c.open_base.new.store)
          c.open_base.ensures.others),
      λ n no_tag no_group. c.open_base.ensures.others n no_tag,
    )

pub returns-in_err-groups-clause-kept : goal.returns-in_err-groups-clause-kept
returns-in_err-groups-clause-kept g c =
    all_kept c.args.name.now (g.F.Files.told c.args.files.now) c.in_ok-base.base _ _ _ _ c.deref.ensures.value c.in_ok-base.ensures.base
    c.open_base.ensures.same c.open_base.ensures.others c.histories_of.ensures.same c.histories_of.ensures.others

pub returns-clause-text : goal.returns-clause-text
returns-clause-text g c =
    let base = c.in_ok-base.base in
    let cores = c.in_ok-cores.cores.items in
    let groups = c.in_ok-groups.groups.items in
    let old = g.S.Store.device_at c.args.store.now in
    let mid = g.S.Store.device_at c.open_base.new.store in
    let stays = c.in_ok-plan.ensures.stays ∙ c.in_ok-base.ensures.stays in
    let planned = rw c.in_ok-base.ensures.stays at c.in_ok-plan.ensures.plan in
    let asked = rw stays at c.in_ok-readers.ensures.queries in
    still_ok _ _ _ c.trend_text.result c.map_err.result c.map_err.ensures.cases (λ text told. record {
      base = base;
      plan = c.in_ok-plan.plan;
      lists = map (λ list. list.items) c.in_ok-readers.readers.items;
      cores = cores;
      groups = rows_in groups;
      opened = record { read = c.in_ok-base.ensures.base; opened = c.in_ok-cores.ensures.opened; few = c.in_ok-cores.ensures.few_records };
      planned = planned;
      asked = asked;
      rows = told_before base.groups.items (tag_records cores) old mid (groups_same base.tags.items old mid c.open_base.ensures.others)
          (rows_in groups)
          (subst (λ l. AreGroupsTold base.groups.items (tag_records l) mid (rows_in groups)) c.deref-2.ensures.value
          (subst (λ l. AreGroupsTold l (tag_records c.deref-2.result.now) mid (rows_in groups)) c.deref.ensures.value
          c.in_ok-groups.ensures.told));
      same = told
          ∙ ap (λ l. trend_text l (rows_in c.deref-4.result.now) (map (λ list. list.items) c.deref-5.result.now)) c.deref-3.ensures.value
          ∙ ap (λ l. trend_text cores (rows_in l) (map (λ list. list.items) c.deref-5.result.now)) c.deref-4.ensures.value
          ∙ ap (λ l. trend_text cores (rows_in groups) (map (λ list. list.items) l)) c.deref-5.ensures.value;
    }) c.trend_text.ensures

pub returns-clause-refused : goal.returns-clause-refused
returns-clause-refused g c = new_error _ _ c.trend_text.result c.map_err.result c.map_err.ensures.cases (λ e why is. OfMemory (search rules))

-- a lack of memory is no fault of a file
none_failed : (r : Result (String Global) Status) (n : ℕ) → IfErr r (λ why. why ≡ WantOfMemory) → faults_after r n ≡ n
none_failed (Ok text) n only = refl
none_failed (Err why) n only = ap (λ s. faults_told s n) only

pub returns-clause-file_faults : goal.returns-clause-file_faults
returns-clause-file_faults g c =
    c.in_ok-readers.ensures.faults ∙ c.in_ok-plan.ensures.faults ∙ c.in_ok-base.ensures.faults
    ∙ sym (none_failed c.map_err.result _ (new_error _ (λ why. why ≡ WantOfMemory) c.trend_text.result c.map_err.result c.map_err.ensures.cases
    (λ e why is. search rules)))

pub returns-clause-kept : goal.returns-clause-kept
returns-clause-kept g c =
    all_kept c.args.name.now (g.F.Files.told c.args.files.now) c.in_ok-base.base _ _ _ _ c.deref.ensures.value c.in_ok-base.ensures.base
    c.open_base.ensures.same c.open_base.ensures.others c.histories_of.ensures.same c.histories_of.ensures.others

pub returns-clause-durable : goal.returns-clause-durable
returns-clause-durable g c = still_ok _ _ _ c.trend_text.result c.map_err.result c.map_err.ensures.cases (λ text told. record {
  base = c.in_ok-base.base;
  cores = c.in_ok-cores.cores.items;
  opened = record { read = c.in_ok-base.ensures.base; opened = c.in_ok-cores.ensures.opened; few = c.in_ok-cores.ensures.few_records };
  left = left_after c.in_ok-base.base.tags.items c.in_ok-cores.cores.items (g.S.Store.device_at c.args.store.now)
      (g.S.Store.device_at c.open_base.new.store) (g.S.Store.device_at c.histories_of.new.store)
      (tags_same c.in_ok-base.base.groups.items _ _ (subst (λ l. group.AreOtherGroupsSame l (g.S.Store.device_at c.open_base.new.store)
      (g.S.Store.device_at c.histories_of.new.store)) c.deref.ensures.value c.histories_of.ensures.others))
      c.in_ok-cores.ensures.left;
}) c.trend_text.ensures

pub returns-clause-synced : goal.returns-clause-synced
returns-clause-synced g c =
    let base = c.in_ok-base.base in
    let old = g.S.Store.device_at c.args.store.now in
    let mid = g.S.Store.device_at c.open_base.new.store in
    let new = g.S.Store.device_at c.histories_of.new.store in
    still_ok _ _ _ c.trend_text.result c.map_err.result c.map_err.ensures.cases (λ text told. record {
      base = base;
      read = c.in_ok-base.ensures.base;
      synced = synced_before base.groups.items (tag_records c.in_ok-cores.cores.items) old mid
          (groups_same base.tags.items old mid c.open_base.ensures.others) new
          (subst (λ l. AllGainSync l mid new) c.deref.ensures.value c.in_ok-groups.ensures.synced);
    }) c.trend_text.ensures

pub trend_text-requires-clause-few_readers : goal.trend_text-requires-clause-few_readers
trend_text-requires-clause-few_readers g c =
    let plan = c.in_ok-plan.plan in
    let asked = c.in_ok-readers.ensures.queries.asked in
    omega (
      arith,
      ap length c.deref-5.ensures.value,
      length-map c.in_ok-readers.readers.items (λ list. list.items),
      as_many_lists _ _ _ _ _ asked,
      plan.few_readers,
      plan.readers.ok,
    )

-- ---- whose read failed

pub returns-in_err-base-clause-whose : goal.returns-in_err-base-clause-whose
returns-in_err-base-clause-whose g c =
    let p = err_from_is_err_and c.from_residual.result c.from_residual.ensures.1 in
    rw (p.1, p.2) (of_base c.args.name.now c.args.plan_name.now _ _ c.in_err-base.field-0.0 _ c.in_err-base.ensures.refused
    (λ which same. c.in_err-base.ensures.whose which (ap Err same)))

pub returns-in_err-plan-clause-whose : goal.returns-in_err-plan-clause-whose
returns-in_err-plan-clause-whose g c =
    let p = err_from_is_err_and c.from_residual-in_err-plan.result c.from_residual-in_err-plan.ensures.1 in
    rw (p.1, p.2) (of_plan c.args.name.now c.args.plan_name.now _ _ c.in_err-plan.field-0.0 _ _ c.in_err-plan.ensures.refused
    (λ which same. c.in_err-plan.ensures.whose which (ap Err same)))

pub returns-in_err-readers-clause-whose : goal.returns-in_err-readers-clause-whose
returns-in_err-readers-clause-whose g c =
    let stays = c.in_ok-plan.ensures.stays ∙ c.in_ok-base.ensures.stays in
    let p = err_from_is_err_and c.from_residual-in_err-readers.result c.from_residual-in_err-readers.ensures.1 in
    rw (p.1, p.2) (of_reader c.args.name.now c.args.plan_name.now _ _ c.in_err-readers.field-0.0 c.in_ok-base.base c.in_ok-plan.plan
    c.in_ok-base.ensures.base (rw (← c.in_ok-base.ensures.stays) c.in_ok-plan.ensures.plan) (rw (← stays) c.in_err-readers.ensures.refused)
    (λ place same. c.in_err-readers.ensures.whose place (ap Err same)))

pub returns-in_err-cores-clause-whose : goal.returns-in_err-cores-clause-whose
returns-in_err-cores-clause-whose g c =
    let p = err_from_is_err_and c.from_residual-in_err-cores.result c.from_residual-in_err-cores.ensures.1 in
    rw (p.1, p.2) (of_none _ _ _ _ _ (tag_is_no_fault _ _ _ _ _ c.in_err-cores.field-0.0 c.in_err-cores.ensures.refused))

pub returns-clause-whose : goal.returns-clause-whose
returns-clause-whose g c = new_error _ _ c.trend_text.result c.map_err.result c.map_err.ensures.cases (λ e why is.
    let want : why ≡ WantOfMemory = search rules in of_none _ _ _ _ why (λ which same. cc))

pub returns-in_err-groups-clause-whose : goal.returns-in_err-groups-clause-whose
returns-in_err-groups-clause-whose g c =
    let p = err_from_is_err_and c.from_residual-in_err-groups.result c.from_residual-in_err-groups.ensures.1 in
    rw (p.1, p.2) (of_none _ _ _ _ _ (group_is_no_fault _ _ _ _ _ _ c.in_err-groups.field-0.0 c.in_err-groups.ensures.refused))

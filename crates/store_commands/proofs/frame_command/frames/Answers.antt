use Rattle.std.proofs.Common.{◌<◌, ◌^◌, ◌∙◌, List, ap, arith, inl, inr, length, refl, rules, string_bytes, subst, sym}
use Rattle.std.proofs.lemmas.List.{length-map}
use Rattle.std.proofs.lemmas.Option.{slice_get_within}
use Rattle.std.proofs.lemmas.Result.{err_from_is_err_and}
use Rattle.trend_num.specs.{CalcValue}
use Rattle.disk_model.specs.{Rose}
use Rattle.calc_check.specs.Group.{Calculation, names_of}
use Rattle.group_layout.specs.{GainsGroupSync}
use Rattle.tag_core.specs.Core.{Core}
use Rattle.tag_base.specs.{IsSoundGroup, GroupDef}
use Rattle.plant_status.specs.declared.unit.Unit.TheVariants.{Group, Tag}
use Rattle.plant_store.specs.Groups.{AreNamesOf, device_name, group_definition_text, input_records_of, group_trace_at}
use Rattle.plant_store.proofs.BookNames.{as_many, named_at}
use Rattle.plant_store.proofs.BookTurns.{still}
use Rattle.store_commands.specs.GroupRows.{tag_records}
use Rattle.plant_store.proofs.MappedErrors.{new_error, still_ok}
use Rattle.plant_store.proofs.OpenedBases.{tag_is_no_fault}
use Rattle.store_commands.proofs.Stores.{groups_same, left_after}
use Rattle.store_commands.specs.FrameCommands.{OfGroup, OfMemory, OfName, OfTag}
use Rattle.store_commands.specs.{TellsFrames}
use Rattle.store_commands.specs.FrameRows.{AreFrameRows, IsFrameRowsRefusal}
use Rattle.store_commands.proofs.FrameEnds.{have_stayed, refusal_before, rows_before, rows_no_read, stayed_at, tags_same}
use Rattle.store_commands.proofs.FramePlaces.{named_group}
use Rattle.store_commands.proofs.frame_command.frames.Goals as goal

pub returns-in_err-place-clause-refused : goal.returns-in_err-place-clause-refused
returns-in_err-place-clause-refused g c =
    let p = err_from_is_err_and c.from_residual-in_err-place.result c.from_residual-in_err-place.ensures.1 in
    rw (p.1, p.2) (OfName c.in_ok-base.base c.in_ok-base.ensures.base c.in_err-place.ensures.refused (λ n. refl))

pub returns-in_err-cores-clause-refused : goal.returns-in_err-cores-clause-refused
returns-in_err-cores-clause-refused g c =
    let place = c.in_ok-place.place in
    let placed = c.in_ok-place.ensures.placed in
    let p = err_from_is_err_and c.from_residual-in_err-cores.result c.from_residual-in_err-cores.ensures.1 in
    rw (p.1, p.2) (OfTag c.in_ok-base.base placed.0 place.group place.calc c.in_ok-base.ensures.base placed.1
    c.in_err-cores.ensures.refused)

pub returns-in_err-cores-clause-kept : goal.returns-in_err-cores-clause-kept
returns-in_err-cores-clause-kept g c =
    let place = c.in_ok-place.place in
    let placed = c.in_ok-place.ensures.placed in
    let mid = g.S.Store.device_at c.open_base.new.store in
    inr (have_stayed c.args.name.now c.args.group.now c.args.calc.now (g.F.Files.told c.args.files.now) c.in_ok-base.base placed.0
    place.group place.calc (g.S.Store.device_at c.args.store.now) mid mid c.in_ok-base.ensures.base placed.1 c.open_base.ensures.same
    c.open_base.ensures.others (still placed.0 _) (λ n other. refl))

pub returns-in_err-cores-clause-file_faults : goal.returns-in_err-cores-clause-file_faults
returns-in_err-cores-clause-file_faults g c =
    let p = err_from_is_err_and c.from_residual-in_err-cores.result c.from_residual-in_err-cores.ensures.1 in
    rw (p.1, p.2) (c.in_ok-base.ensures.faults
    ∙ sym (c.in_err-cores.ensures.no_file_fault (g.F.Files.fault_count c.args.files.now)))

pub returns-in_err-cores-clause-whose : goal.returns-in_err-cores-clause-whose
returns-in_err-cores-clause-whose g c =
    let p = err_from_is_err_and c.from_residual-in_err-cores.result c.from_residual-in_err-cores.ensures.1 in
    rw (p.1, p.2) (λ which same. absurd (tag_is_no_fault _ _ _ _ _ c.in_err-cores.field-0.0 c.in_err-cores.ensures.refused which same))

pub returns-in_err-cores-clause-counts : goal.returns-in_err-cores-clause-counts
returns-in_err-cores-clause-counts g c =
    let p = err_from_is_err_and c.from_residual-in_err-cores.result c.from_residual-in_err-cores.ensures.1 in
    rw (p.1, p.2) (λ small. elim (c.in_err-cores.ensures.counts small) [
      | inl same ↦ inl same
      | inr fault ↦ inr (Tag fault.0, fault.1, fault.2)
    ])

pub index-requires : goal.index-requires
index-requires g c =
    let groups = c.in_ok-base.base.groups in
    let placed = c.in_ok-place.ensures.placed in
    omega (arith, slice_get_within groups.items c.in_ok-place.place.group placed.0 placed.1.there, groups.ok.0)

pub index-requires-2 : goal.index-requires-2
index-requires-2 g c =
    let groups = c.in_ok-base.base.groups.items in
    let placed = c.in_ok-place.ensures.placed in
    let are = subst (λ l. AreNamesOf l c.in-Ok.names.items) c.deref.ensures.value c.in-Ok.ensures.names in
    omega (
      arith,
      slice_get_within groups c.in_ok-place.place.group placed.0 placed.1.there,
      as_many groups c.in-Ok.names.items are,
      c.in-Ok.names.ok.0,
    )

pub rows_of-requires-clause-name : goal.rows_of-requires-clause-name
rows_of-requires-clause-name g c κs within =
    let groups = c.in_ok-base.base.groups.items in
    let place = c.in_ok-place.place in
    let placed = c.in_ok-place.ensures.placed in
    let are = subst (λ l. AreNamesOf l c.in-Ok.names.items) c.deref.ensures.value c.in-Ok.ensures.names in
    c.as_str-device.ensures.value ∙ ap string_bytes c.index-2.ensures
    ∙ named_at groups c.in-Ok.names.items place.group c.index.result.now c.index-2.result.now are
    (slice_get_within groups place.group placed.0 placed.1.there)
    ∙ ap (λ (x : GroupDef). device_name x.name) (sym c.index.ensures)

pub rows_of-requires-clause-sound : goal.rows_of-requires-clause-sound
rows_of-requires-clause-sound g c κs within =
    let base = c.in_ok-base.base in
    let place = c.in_ok-place.place in
    let placed = c.in_ok-place.ensures.placed in
    let group = c.index.result.now in
    subst (λ n. IsSoundGroup n group) (sym (ap (length {A = Core}) c.deref-2.ensures.value ∙ c.in_ok-cores.ensures.as_many))
    (subst (λ (x : GroupDef). IsSoundGroup (length base.tags.items) x) (sym c.index.ensures)
    (c.in_ok-base.ensures.sound place.group group (slice_get_within base.groups.items place.group placed.0 placed.1.there)))

pub rows_of-requires-clause-place : goal.rows_of-requires-clause-place
rows_of-requires-clause-place g c κs within =
    let base = c.in_ok-base.base in
    let placed = c.in_ok-place.ensures.placed in
    omega (
      arith,
      slice_get_within base.groups.items c.in_ok-place.place.group placed.0 placed.1.there,
      base.few_groups,
      base.groups.ok.0,
    )

pub rows_of-requires-clause-calc : goal.rows_of-requires-clause-calc
rows_of-requires-clause-calc g c κs within =
    let place = c.in_ok-place.place in
    let group = c.index.result.now in
    let named = named_group _ c.args.group.now c.args.calc.now place.group place.calc group c.in_ok-place.ensures.placed c.index.ensures in
    omega (
      arith,
      slice_get_within (names_of group.calcs.calcs) place.calc c.args.calc.now named.calculates,
      length-map group.calcs.calcs (λ (x : Calculation). x.name),
    )

pub returns-in_err-rows-clause-refused : goal.returns-in_err-rows-clause-refused
returns-in_err-rows-clause-refused g c =
    let base = c.in_ok-base.base in
    let place = c.in_ok-place.place in
    let group = c.index.result.now in
    let named = named_group _ c.args.group.now c.args.calc.now place.group place.calc group c.in_ok-place.ensures.placed c.index.ensures in
    let old = g.S.Store.device_at c.args.store.now in
    let mid = g.S.Store.device_at c.open_base.new.store in
    let count = g.S.Store.fault_count c.open_base.new.store in
    let now = g.S.Store.fault_count c.rows_of.new.store in
    let cores = c.in_ok-cores.cores.items in
    let p = err_from_is_err_and c.from_residual-in_err-rows.result c.from_residual-in_err-rows.ensures.1 in
    rw (p.1, p.2) (OfGroup base group place.group place.calc cores
    (record { read = c.in_ok-base.ensures.base; opened = c.in_ok-cores.ensures.opened; few = c.in_ok-cores.ensures.few_records }) named
    (refusal_before place.group group (input_records_of (tag_records cores) group) (group_trace_at old group) (group_trace_at mid group)
    (group_trace_at (g.S.Store.device_at c.rows_of.new.store) group)
    (g.S.Store.fault_count c.args.store.now) count now c.in_err-rows.field-0.0
    (groups_same base.tags.items old mid c.open_base.ensures.others group) c.in_ok-cores.ensures.counts
    (subst (λ (l : List Core). IsFrameRowsRefusal place.group group (input_records_of (tag_records l) group) (group_trace_at mid group)
    (group_trace_at (g.S.Store.device_at c.rows_of.new.store) group) count now
    c.in_err-rows.field-0.0) c.deref-2.ensures.value c.in_err-rows.ensures.refused)))

pub returns-in_err-rows-clause-kept : goal.returns-in_err-rows-clause-kept
returns-in_err-rows-clause-kept g c =
    inr (stayed_at c.args.name.now c.args.group.now c.args.calc.now (g.F.Files.told c.args.files.now) c.in_ok-base.base c.index.result.now
    c.in_ok-place.place.group c.in_ok-place.place.calc (g.S.Store.device_at c.args.store.now) (g.S.Store.device_at c.open_base.new.store)
    (g.S.Store.device_at c.rows_of.new.store) c.in_ok-base.ensures.base c.in_ok-place.ensures.placed c.index.ensures
    c.open_base.ensures.same c.open_base.ensures.others c.rows_of.ensures.same c.rows_of.ensures.others)

pub returns-in_err-rows-clause-whose : goal.returns-in_err-rows-clause-whose
returns-in_err-rows-clause-whose g c =
    let p = err_from_is_err_and c.from_residual-in_err-rows.result c.from_residual-in_err-rows.ensures.1 in
    rw (p.1, p.2) (λ which same. absurd (rows_no_read _ _ _ _ _ _ _ c.in_err-rows.field-0.0 c.in_err-rows.ensures.refused which same))

pub returns-in_err-rows-clause-counts : goal.returns-in_err-rows-clause-counts
returns-in_err-rows-clause-counts g c =
    let now = g.S.Store.fault_count c.rows_of.new.store in
    λ small.
    let first = c.in_ok-cores.ensures.counts small in
    let p = err_from_is_err_and c.from_residual-in_err-rows.result c.from_residual-in_err-rows.ensures.1 in
    rw (p.1, p.2) (elim (c.in_err-rows.ensures.counts (subst (λ n. n < 2 ^ 64) (sym first) small)) [
      | inl same ↦ inl (same ∙ first)
      | inr fault ↦ inr (Group fault.0, fault.1, subst (λ n. Rose n now) first fault.2)
    ])

pub tell_frames-requires-clause-period : goal.tell_frames-requires-clause-period
tell_frames-requires-clause-period g c =
    let base = c.in_ok-base.base in
    let place = c.in_ok-place.place in
    let placed = c.in_ok-place.ensures.placed in
    let group = c.index.result.now in
    let sound = subst (λ (x : GroupDef). IsSoundGroup (length base.tags.items) x) (sym c.index.ensures)
    (c.in_ok-base.ensures.sound place.group group (slice_get_within base.groups.items place.group placed.0 placed.1.there)) in
    sound.some_period

pub returns-clause-text : goal.returns-clause-text
returns-clause-text g c =
    let base = c.in_ok-base.base in
    let place = c.in_ok-place.place in
    let group = c.index.result.now in
    let old = g.S.Store.device_at c.args.store.now in
    let mid = g.S.Store.device_at c.open_base.new.store in
    let cores = c.in_ok-cores.cores.items in
    let rows = c.in_ok-rows.rows in
    still_ok _ _ _ c.tell_frames.result c.map_err.result c.map_err.ensures.cases (λ text told. record {
      base = base;
      g = group;
      i = place.group;
      k = place.calc;
      cores = cores;
      saved = rows.saved.items;
      refreshed = rows.refreshed.items;
      opened = record { read = c.in_ok-base.ensures.base; opened = c.in_ok-cores.ensures.opened; few = c.in_ok-cores.ensures.few_records };
      named = named_group _ c.args.group.now c.args.calc.now place.group place.calc group c.in_ok-place.ensures.placed c.index.ensures;
      rows = rows_before group place.calc (input_records_of (tag_records cores) group) (group_trace_at old group) (group_trace_at mid group) rows.saved.items
          rows.refreshed.items (groups_same base.tags.items old mid c.open_base.ensures.others group)
          (subst (λ (l : List Core). AreFrameRows group place.calc (input_records_of (tag_records l) group) (group_trace_at mid group) rows.saved.items
          rows.refreshed.items) c.deref-2.ensures.value c.in_ok-rows.ensures.rows);
      tells = subst (λ (l : List CalcValue). TellsFrames group c.args.least rows.saved.items l (string_bytes text))
          c.deref-4.ensures.value
          (subst (λ (l : List CalcValue). TellsFrames group c.args.least l c.deref-4.result.now (string_bytes text))
          c.deref-3.ensures.value told);
    }) c.tell_frames.ensures

pub returns-clause-refused : goal.returns-clause-refused
returns-clause-refused g c = new_error _ _ c.tell_frames.result c.map_err.result c.map_err.ensures.cases (λ e why is. OfMemory (search rules))

pub returns-clause-durable : goal.returns-clause-durable
returns-clause-durable g c =
    let base = c.in_ok-base.base in
    let cores = c.in_ok-cores.cores.items in
    let mid = g.S.Store.device_at c.open_base.new.store in
    let new = g.S.Store.device_at c.rows_of.new.store in
    still_ok _ _ _ c.tell_frames.result c.map_err.result c.map_err.ensures.cases (λ text told. record {
      base = base;
      cores = cores;
      opened = record { read = c.in_ok-base.ensures.base; opened = c.in_ok-cores.ensures.opened; few = c.in_ok-cores.ensures.few_records };
      left = left_after base.tags.items cores (g.S.Store.device_at c.args.store.now) mid new
          (tags_same c.index.result.now mid new c.rows_of.ensures.others) c.in_ok-cores.ensures.left;
    }) c.tell_frames.ensures

pub returns-clause-synced : goal.returns-clause-synced
returns-clause-synced g c =
    let base = c.in_ok-base.base in
    let place = c.in_ok-place.place in
    let group = c.index.result.now in
    let mid = g.S.Store.device_at c.open_base.new.store in
    let new = g.S.Store.device_at c.rows_of.new.store in
    still_ok _ _ _ c.tell_frames.result c.map_err.result c.map_err.ensures.cases (λ text told. record {
      base = base;
      g = group;
      i = place.group;
      k = place.calc;
      read = c.in_ok-base.ensures.base;
      named = named_group _ c.args.group.now c.args.calc.now place.group place.calc group c.in_ok-place.ensures.placed c.index.ensures;
      synced = subst (λ o. GainsGroupSync (group_definition_text group) o (group_trace_at new group))
          (groups_same base.tags.items (g.S.Store.device_at c.args.store.now) mid c.open_base.ensures.others group)
          c.in_ok-rows.ensures.synced;
    }) c.tell_frames.ensures

pub returns-clause-kept : goal.returns-clause-kept
returns-clause-kept g c =
    inr (stayed_at c.args.name.now c.args.group.now c.args.calc.now (g.F.Files.told c.args.files.now) c.in_ok-base.base c.index.result.now
    c.in_ok-place.place.group c.in_ok-place.place.calc (g.S.Store.device_at c.args.store.now) (g.S.Store.device_at c.open_base.new.store)
    (g.S.Store.device_at c.rows_of.new.store) c.in_ok-base.ensures.base c.in_ok-place.ensures.placed c.index.ensures
    c.open_base.ensures.same c.open_base.ensures.others c.rows_of.ensures.same c.rows_of.ensures.others)

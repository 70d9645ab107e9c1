use Rattle.std.proofs.Common.{Err, inr, rules, refl, ap, string_bytes, subst, w32}
use Rattle.std.proofs.lemmas.Int.{to_z-of_z}
use Rattle.std.proofs.lemmas.Result.{err_from_is_err_and}
use Rattle.tag_core.specs.Core.{Core}
use Rattle.shift_calendar.specs.{AreWindows, shifts_over}
use Rattle.plant_more.specs.{AreShiftLines}
use Rattle.plant_more.specs.Shifts.{OfCalendar, OfMemory, OfTag}
use Rattle.plant_store.proofs.MappedErrors.{new_error, still_ok}
use Rattle.plant_store.proofs.OpenedBases.{tag_is_no_fault, of_tags}
use Rattle.plant_more.proofs.ShiftRefusals.{of_base, of_calendar, of_none, own_base, own_calendar, own_tag}
use Rattle.plant_more.proofs.shift_figures.shift_text.Goals as goal

-- ---- a base that is refused

pub returns-in_err-base-clause-its_own : goal.returns-in_err-base-clause-its_own
returns-in_err-base-clause-its_own g c =
    let p = err_from_is_err_and c.from_residual.result c.from_residual.ensures.1 in
    rw (p.1, p.2) (own_base _ c.in_err-base.field-0.0 c.in_err-base.ensures.refused)

pub returns-in_err-base-clause-whose : goal.returns-in_err-base-clause-whose
returns-in_err-base-clause-whose g c =
    let p = err_from_is_err_and c.from_residual.result c.from_residual.ensures.1 in
    rw (p.1, p.2) (of_base c.args.name.now c.args.calendar_name.now _ c.in_err-base.field-0.0 _ c.in_err-base.ensures.refused
    (λ which same. c.in_err-base.ensures.whose which (ap Err same)))

-- ---- a calendar

pub returns-in_err-calendar-clause-refused : goal.returns-in_err-calendar-clause-refused
returns-in_err-calendar-clause-refused g c =
    let p = err_from_is_err_and c.from_residual-in_err-calendar.result c.from_residual-in_err-calendar.ensures.1 in
    rw (p.1, p.2) (OfCalendar c.in_ok-base.base c.in_ok-base.ensures.base
    (rw (← c.in_ok-base.ensures.stays) c.in_err-calendar.ensures.refused) (λ n. refl))

pub returns-in_err-calendar-clause-its_own : goal.returns-in_err-calendar-clause-its_own
returns-in_err-calendar-clause-its_own g c =
    let p = err_from_is_err_and c.from_residual-in_err-calendar.result c.from_residual-in_err-calendar.ensures.1 in
    rw (p.1, p.2) (own_calendar _ _ c.in_err-calendar.field-0.0 c.in_err-calendar.ensures.refused)

pub returns-in_err-calendar-clause-whose : goal.returns-in_err-calendar-clause-whose
returns-in_err-calendar-clause-whose g c =
    let p = err_from_is_err_and c.from_residual-in_err-calendar.result c.from_residual-in_err-calendar.ensures.1 in
    rw (p.1, p.2) (of_calendar c.args.name.now c.args.calendar_name.now _ c.in_err-calendar.field-0.0 _ _ c.in_err-calendar.ensures.refused
    (λ which same. c.in_err-calendar.ensures.whose which (ap Err same)))

-- ---- a tag

pub returns-in_err-cores-clause-refused : goal.returns-in_err-cores-clause-refused
returns-in_err-cores-clause-refused g c =
    let p = err_from_is_err_and c.from_residual-in_err-cores.result c.from_residual-in_err-cores.ensures.1 in
    rw (p.1, p.2) (OfTag c.in_ok-base.base c.in_ok-calendar.calendar c.in_ok-base.ensures.base
    (rw (← c.in_ok-base.ensures.stays) c.in_ok-calendar.ensures.calendar) c.in_err-cores.ensures.refused)

pub returns-in_err-cores-clause-its_own : goal.returns-in_err-cores-clause-its_own
returns-in_err-cores-clause-its_own g c =
    let p = err_from_is_err_and c.from_residual-in_err-cores.result c.from_residual-in_err-cores.ensures.1 in
    rw (p.1, p.2) (own_tag _ _ _ _ _ c.in_err-cores.field-0.0 c.in_err-cores.ensures.refused)

pub returns-in_err-cores-clause-kept : goal.returns-in_err-cores-clause-kept
returns-in_err-cores-clause-kept g c =
    inr (c.in_ok-base.base, c.in_ok-base.ensures.base, c.open_base.ensures.same, c.open_base.ensures.others)

pub returns-in_err-cores-clause-whose : goal.returns-in_err-cores-clause-whose
returns-in_err-cores-clause-whose g c =
    let p = err_from_is_err_and c.from_residual-in_err-cores.result c.from_residual-in_err-cores.ensures.1 in
    rw (p.1, p.2) (of_none _ _ _ _ (tag_is_no_fault _ _ _ _ _ c.in_err-cores.field-0.0 c.in_err-cores.ensures.refused))

pub returns-in_err-cores-clause-counts : goal.returns-in_err-cores-clause-counts
returns-in_err-cores-clause-counts g c =
    let p = err_from_is_err_and c.from_residual-in_err-cores.result c.from_residual-in_err-cores.ensures.1 in
    rw (p.1, p.2) (λ small.
    of_tags {T = Core} (Err c.in_err-cores.field-0.0) _ _ (c.in_err-cores.ensures.counts small))

-- ---- what is printed

pub returns-clause-text : goal.returns-clause-text
returns-clause-text g c =
    let base = c.in_ok-base.base in
    let cal = c.in_ok-calendar.calendar in
    let cores = c.in_ok-cores.cores.items in
    still_ok _ _ _ c.shift_lines.result c.map_err.result c.map_err.ensures.cases (λ text told. record {
      base = base;
      cal = cal;
      cores = cores;
      windows = told.0;
      opened = record {
        read = c.in_ok-base.ensures.base;
        opened = c.in_ok-cores.ensures.opened;
        few = c.in_ok-cores.ensures.few_records;
      };
      calendar = rw (← c.in_ok-base.ensures.stays) c.in_ok-calendar.ensures.calendar;
      shifts = subst (λ day. AreWindows cal.zone (shifts_over cal.starts day c.args.days) told.0)
          (to_z-of_z w32 c.args.day c.ranges.day) told.1;
      lines = subst (λ l. AreShiftLines base.tags.items l cal told.0 (string_bytes text)) c.deref-2.ensures.value
          (subst (λ l. AreShiftLines l c.deref-2.result.now cal told.0 (string_bytes text)) c.deref.ensures.value told.2);
    }) c.shift_lines.ensures

pub returns-clause-refused : goal.returns-clause-refused
returns-clause-refused g c = new_error _ _ c.shift_lines.result c.map_err.result c.map_err.ensures.cases (λ e why is. OfMemory (search rules))

pub returns-clause-kept : goal.returns-clause-kept
returns-clause-kept g c = inr (c.in_ok-base.base, c.in_ok-base.ensures.base, c.open_base.ensures.same, c.open_base.ensures.others)

pub returns-clause-durable : goal.returns-clause-durable
returns-clause-durable g c = still_ok _ _ _ c.shift_lines.result c.map_err.result c.map_err.ensures.cases (λ text told. record {
  base = c.in_ok-base.base;
  cores = c.in_ok-cores.cores.items;
  opened = record {
    read = c.in_ok-base.ensures.base;
    opened = c.in_ok-cores.ensures.opened;
    few = c.in_ok-cores.ensures.few_records;
  };
  left = c.in_ok-cores.ensures.left;
}) c.shift_lines.ensures

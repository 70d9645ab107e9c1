use Rattle.std.proofs.Common.{inl, inr, rules, ◌∙◌, ap}
use Rattle.std.proofs.lemmas.Result.{err_from_is_err_and}
use Rattle.trend_report.specs.{check_text}
use Rattle.plant_store.proofs.MappedErrors.{new_error, still_ok}
use Rattle.plant_store.proofs.OpenedBases.{tag_is_no_fault}
use Rattle.store_commands.proofs.tag_lines.check.Goals as goal

pub returns-in_err-cores-clause-refused : goal.returns-in_err-cores-clause-refused
returns-in_err-cores-clause-refused g c =
    let p = err_from_is_err_and c.from_residual-in_err-cores.result c.from_residual-in_err-cores.ensures.1 in
    rw (p.1, p.2) (inr (inl (c.in_ok-base.base, c.in_ok-base.ensures.base, c.in_err-cores.ensures.refused)))

pub returns-in_err-cores-clause-kept : goal.returns-in_err-cores-clause-kept
returns-in_err-cores-clause-kept g c =
    inr (c.in_ok-base.base, c.in_ok-base.ensures.base, c.open_base.ensures.same, c.open_base.ensures.others)

pub returns-clause-text : goal.returns-clause-text
returns-clause-text g c =
    let base = c.in_ok-base.base in
    still_ok _ _ _ c.check_text.result c.map_err.result c.map_err.ensures.cases (λ text told. record {
      base = base;
      cores = c.in_ok-cores.cores.items;
      opened = record { read = c.in_ok-base.ensures.base; opened = c.in_ok-cores.ensures.opened; few = c.in_ok-cores.ensures.few_records };
      same = told ∙ ap (λ l. check_text l c.deref-2.result.now) c.deref.ensures.value
          ∙ ap (λ l. check_text base.tags.items l) c.deref-2.ensures.value;
    }) c.check_text.ensures

pub returns-clause-refused : goal.returns-clause-refused
returns-clause-refused g c = new_error _ _ c.check_text.result c.map_err.result c.map_err.ensures.cases (λ e why is. inr (inr (search rules)))

pub returns-clause-kept : goal.returns-clause-kept
returns-clause-kept g c = inr (c.in_ok-base.base, c.in_ok-base.ensures.base, c.open_base.ensures.same, c.open_base.ensures.others)

pub returns-clause-durable : goal.returns-clause-durable
returns-clause-durable g c = still_ok _ _ _ c.check_text.result c.map_err.result c.map_err.ensures.cases (λ text told. record {
  base = c.in_ok-base.base;
  cores = c.in_ok-cores.cores.items;
  opened = record { read = c.in_ok-base.ensures.base; opened = c.in_ok-cores.ensures.opened; few = c.in_ok-cores.ensures.few_records };
  left = c.in_ok-cores.ensures.left;
}) c.check_text.ensures

pub returns-in_err-cores-clause-whose : goal.returns-in_err-cores-clause-whose
returns-in_err-cores-clause-whose g c =
    let p = err_from_is_err_and c.from_residual-in_err-cores.result c.from_residual-in_err-cores.ensures.1 in
    rw (p.1, p.2) (λ which same.
    absurd (tag_is_no_fault _ _ _ _ _ c.in_err-cores.field-0.0 c.in_err-cores.ensures.refused which same))

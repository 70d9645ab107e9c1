use Rattle.std.proofs.Common.{arith, ◌+◌, ◌++◌, Err, take, drop, sym, ap, ◌∙◌}
use Rattle.std.proofs.lemmas.Result.{err_from_is_err_and}
use Rattle.std.proofs.lemmas.List.{drop_more, take-append-drop, take_all}
use Rattle.std.proofs.lemmas.List.Elements.{All-more}
use Rattle.archive_file.specs.{Keeps}
use Rattle.archive_file.proofs.layout_field.check.Goals as goal

pub loop-field-preserved : goal.loop-field-preserved
loop-field-preserved c =
    All-more (Keeps c.args.c.now) c.args.fields.now c.loop-field.field-index _ c.loop-field-test.true
    c.loop-field.invariant c.in_ok-check.ensures.kept

pub returns-clause-kept : goal.returns-clause-kept
returns-clause-kept c = grind (arith, take_all)

pub returns-in_err-check-clause-damaged : goal.returns-in_err-check-clause-damaged
returns-in_err-check-clause-damaged c = λ a byte told.
    let fields = c.args.fields.now in
    let i = c.loop-field.field-index in
    let out = err_from_is_err_and c.from_residual.result c.from_residual.ensures.1 in
    let breaks = c.in_err-check.ensures.damaged a byte (ap Err (sym out.2) ∙ sym out.1 ∙ told) in
    record {
      before = take i fields;
      field = _;
      behind = drop (i + 1) fields;
      are = sym (take-append-drop i fields) ∙ ap (λ l. take i fields ++ l) (drop_more fields i _ c.loop-field-test.true);
      kept = c.loop-field.invariant;
      breaks = breaks;
    }

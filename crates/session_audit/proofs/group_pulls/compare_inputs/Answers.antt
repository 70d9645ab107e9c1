use Rattle.std.proofs.Common.{◌<◌, ◌∙◌, inl, inr, Some, ap, sym, subst, arith, get_or, length}
use Rattle.std.proofs.lemmas.Bool.{cases_eq}
use Rattle.std.proofs.lemmas.List.{get_or_default}
use Rattle.std.proofs.lemmas.List.Elements.{All-get_or}
use Rattle.std.proofs.lemmas.Option.{slice_get-get_or}
use Rattle.std.proofs.lemmas.Result.{err_from_is_err_and}
use Rattle.session_audit.specs.Pulls.{IsPulledFrom}
use Rattle.session_audit.proofs.group_pulls.compare_inputs.Goals as goal

pub returns-in_err-compare_input-clause-differs : goal.returns-in_err-compare_input-clause-differs
returns-in_err-compare_input-clause-differs g c =
    let at = c.loop-input.input in
    let cells = c.args.cells.now in
    let cell = c.index-cells-tags.result in
    let known = All-get_or (λ tag. tag < length cells) c.args.tags.now at 0 c.loop-input-test.true c.requires.inputs.known in
    let p = err_from_is_err_and c.from_residual.result c.from_residual.ensures.1 in
    rw (p.1, p.2) (record {
      input = at;
      cell = cell;
      within = c.loop-input-test.true;
      front = c.loop-input.invariant;
      there = slice_get-get_or cells (get_or c.args.tags.now at 0) cell known ∙ ap Some (sym c.index-cells-tags.is);
      differs = c.in_err-compare_input.ensures.differs;
    })

pub loop-input-preserved : goal.loop-input-preserved
loop-input-preserved g c = λ k d below.
    let at = c.loop-input.input in
    let cells = c.args.cells.now in
    let cell = c.index-cells-tags.result in
    let known = All-get_or (λ tag. tag < length cells) c.args.tags.now at 0 c.loop-input-test.true c.requires.inputs.known in
    elim (cases_eq k at) [
      | inl same ↦ subst (λ n. IsPulledFrom c.args.group n (get_or cells (get_or c.args.tags.now n 0) d) c.args.book.now) (sym same)
          (subst (λ x. IsPulledFrom c.args.group at x c.args.book.now)
          (c.index-cells-tags.is ∙ get_or_default cells (get_or c.args.tags.now at 0) cell d known) c.in_ok-compare_input.ensures.pulled)
      | inr differ ↦ c.loop-input.invariant k d (omega (arith, below, differ))
    ]

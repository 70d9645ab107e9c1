use Rattle.std.proofs.Common.{◌≡◌, ◌∙◌, inl, inr, Some, ap, sym, subst, arith, get_or}
use Rattle.std.proofs.lemmas.Bool.{cases_eq}
use Rattle.std.proofs.lemmas.List.{get_or_default}
use Rattle.std.proofs.lemmas.Option.{slice_get-get_or}
use Rattle.session_audit.specs.{takes_mismatch, takes_at_pull}
use Rattle.session_audit.proofs.first_pulls.compare_first_pulls.Goals as goal

pub loop-tag-preserved : goal.loop-tag-preserved
loop-tag-preserved g c = λ k d below.
    let at = c.loop-tag.tag in
    let one = c.index-cells-tag.result in
    elim (cases_eq k at) [
      | inl same ↦ subst (λ n. takes_at_pull (get_or c.args.cells.now n d).opening (get_or c.args.cells.now n d).tape ≡ get_or c.args.rows.now n 0)
          (sym same)
          (subst (λ x. takes_at_pull x.opening x.tape ≡ get_or c.args.rows.now at 0)
          (c.index-cells-tag.is ∙ get_or_default c.args.cells.now at one d c.loop-tag-test.true)
          (omega (arith, c.if-takes-from.false, c.takes_at_pull-takes.ensures, c.from.ensures)))
      | inr differ ↦ c.loop-tag.invariant k d (omega (arith, below, differ))
    ]

pub returns-clause-same : goal.returns-clause-same
returns-clause-same g c = record {
  each = λ tag d below. c.loop-tag.invariant tag d (omega (arith, below, c.loop-tag-test.false));
}

pub returns-then-takes-from-clause-differs : goal.returns-then-takes-from-clause-differs
returns-then-takes-from-clause-differs g c =
    let at = c.loop-tag.tag in
    let one = c.index-cells-tag.result in
    record {
      tag = at;
      cell = one;
      there = slice_get-get_or c.args.cells.now at one c.loop-tag-test.true ∙ ap Some (sym c.index-cells-tag.is);
      told = c.takes_mismatch.ensures ∙ ap (λ n. takes_mismatch at n (get_or c.args.rows.now at 0)) c.takes_at_pull-takes.ensures;
      differ = λ same. c.if-takes-from.true (c.takes_at_pull-takes.ensures ∙ (same ∙ sym c.from.ensures));
      front = c.loop-tag.invariant;
    }

use Rattle.std.proofs.Common.{◌≤◌, ◌∙◌, inl, inr, Some, ap, sym, subst, arith, get_or, length}
use Rattle.std.proofs.lemmas.Bool.{cases_eq}
use Rattle.std.proofs.lemmas.List.{get_or_default}
use Rattle.std.proofs.lemmas.Option.{slice_get-get_or}
use Rattle.plant_status.specs.declared.mismatch.Seen.TheVariants.{Number}
use Rattle.session_audit.specs.{refreshes}
use Rattle.session_audit.proofs.group_turns.compare_turns.Goals as goal

pub returns-then-made-turns-clause-differs : goal.returns-then-made-turns-clause-differs
returns-then-made-turns-clause-differs g c =
    let b = c.index-books-group.result in
    let made = c.count_refreshes-made.ensures.count ∙ ap (λ t. length (refreshes t)) c.tape.ensures in
    record {
      book = b;
      there = slice_get-get_or c.args.books.now c.loop-group.group b c.loop-group-test.true ∙ ap Some (sym c.index-books-group.is);
      above = record { kept_is = ap Number made; told_is = ap Number c.from.ensures; above = omega (arith, c.if-made-turns.true, made) };
      front = c.loop-group.invariant;
    }

pub loop-group-preserved : goal.loop-group-preserved
loop-group-preserved g c = λ k d below.
    let at = c.loop-group.group in
    let b = c.index-books-group.result in
    let made = c.count_refreshes-made.ensures.count ∙ ap (λ t. length (refreshes t)) c.tape.ensures in
    elim (cases_eq k at) [
      | inl same ↦ subst (λ n. length (refreshes (get_or c.args.books.now n d).tape) ≤ get_or c.args.turns.now n 0) (sym same)
          (subst (λ x. length (refreshes x.tape) ≤ get_or c.args.turns.now at 0)
          (c.index-books-group.is ∙ get_or_default c.args.books.now at b d c.loop-group-test.true)
          (omega (arith, c.if-made-turns.false, made)))
      | inr differ ↦ c.loop-group.invariant k d (omega (arith, below, differ))
    ]

pub returns-clause-within : goal.returns-clause-within
returns-clause-within g c = record {
  each = λ group d below. c.loop-group.invariant group d (omega (arith, below, c.loop-group-test.false));
}

use Rattle.std.proofs.Common.{◌≡◌, ◌<◌, ◌^◌, ◌∙◌, ℕ, [], Vec, inl, inr, Some, ap, sym, subst, arith, get_or, length}
use Rattle.std.specs.declared.alloc.Global.{Global}
use Rattle.std.proofs.lemmas.Bool.{cases_eq}
use Rattle.std.proofs.lemmas.List.{get_or_default, length-map}
use Rattle.std.proofs.lemmas.List.Elements.{All-get_or}
use Rattle.std.proofs.lemmas.Option.{slice_get-get_or}
use Rattle.std.proofs.lemmas.Result.{err_from_is_err_and}
use Rattle.calc_refresh.specs.{lists_of}
use Rattle.group_book.specs.{ToldBook}
use Rattle.session_audit.specs.{IsInputsOf, refreshes}
use Rattle.session_audit.proofs.Files.{file_at}
use Rattle.session_audit.specs.Pulls.{AreInputsPulled, IsMismatchOf}
use Rattle.session_audit.proofs.group_pulls.compare_pulls.Given as given
use Rattle.session_audit.proofs.group_pulls.compare_pulls.Goals as goal
use Rattle.session_audit.proofs.group_pulls.compare_pulls.Goals.{After-deref}

-- the tags of the group's inputs are its own
tags_are : (g : given.Over) (c : After-deref g) → c.deref.result.now ≡ get_or (lists_of c.args.inputs.now) c.loop-group.group []
tags_are g c =
    let inputs = c.args.inputs.now in
    c.deref.ensures.value ∙ file_at inputs c.loop-group.group c.index-inputs-group.result []
    (omega (arith, c.loop-group-test.true, c.requires.inputs.as_many, length-map inputs (λ (v : Vec ℕ Global). v.items)))
    c.index-inputs-group.is

pub compare_inputs-requires-clause-inputs : goal.compare_inputs-requires-clause-inputs
compare_inputs-requires-clause-inputs g c =
    let at = c.loop-group.group in
    let book = c.index-books-group.result in
    let tags = tags_are g (goal.at.compare_inputs-requires-clause-inputs g c).After-deref in
    subst (λ l. IsInputsOf (length c.args.cells.now) l book) (sym tags)
    (subst (IsInputsOf (length c.args.cells.now) (get_or (lists_of c.args.inputs.now) at [])) (sym c.index-books-group.is)
    (c.requires.inputs.each at book c.loop-group-test.true))

pub compare_inputs-requires-clause-few_turns : goal.compare_inputs-requires-clause-few_turns
compare_inputs-requires-clause-few_turns g c =
    subst (λ (b : ToldBook _). length (refreshes b.tape) < 2 ^ 32) (sym c.index-books-group.is)
    (All-get_or (λ (b : ToldBook _). length (refreshes b.tape) < 2 ^ 32) c.args.books.now c.loop-group.group
    c.index-books-group.result c.loop-group-test.true c.requires.few_turns)

pub returns-in_err-compare_inputs-clause-differs : goal.returns-in_err-compare_inputs-clause-differs
returns-in_err-compare_inputs-clause-differs g c =
    let at = c.loop-group.group in
    let book = c.index-books-group.result in
    let tags = tags_are g (goal.at.returns-in_err-compare_inputs-clause-differs g c).After-deref in
    let p = err_from_is_err_and c.from_residual.result c.from_residual.ensures.1 in
    rw (p.1, p.2) (record {
      group = at;
      book = book;
      there = slice_get-get_or c.args.books.now at book c.loop-group-test.true ∙ ap Some (sym c.index-books-group.is);
      front = c.loop-group.invariant;
      differs = subst (λ l. IsMismatchOf at l c.args.cells.now book c.in_err-compare_inputs.field-0.0) tags c.in_err-compare_inputs.ensures.differs;
    })

pub loop-group-preserved : goal.loop-group-preserved
loop-group-preserved g c = λ k b below.
    let at = c.loop-group.group in
    let inputs = c.args.inputs.now in
    let books = c.args.books.now in
    let book = c.index-books-group.result in
    let tags = tags_are g (goal.at.loop-group-preserved g c).After-deref in
    elim (cases_eq k at) [
      | inl same ↦ subst (λ n. AreInputsPulled n (get_or (lists_of inputs) n []) c.args.cells.now (get_or books n b)) (sym same)
          (subst (λ l. AreInputsPulled at l c.args.cells.now (get_or books at b)) tags
          (subst (λ x. AreInputsPulled at c.deref.result.now c.args.cells.now x)
          (c.index-books-group.is ∙ get_or_default books at book b c.loop-group-test.true)
          c.in_ok-compare_inputs.ensures.pulled))
      | inr differ ↦ c.loop-group.invariant k b (omega (arith, below, differ))
    ]

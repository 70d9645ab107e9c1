use Rattle.std.proofs.Common.{ℕ, List, Vec, ap, subst, length}
use Rattle.std.proofs.lemmas.Result.{err_from_is_err_and, on_ok_weaker}
use Rattle.std.specs.declared.alloc.Global.{Global}
use Rattle.calc_refresh.specs.{lists_of}
use Rattle.session_audit.specs.Pulls.{ArePulled, IsPullMismatch}
use Rattle.run_command.specs.Refusals.{OfFinding, OfMaking, OfPull, OfStop}
use Rattle.run_command.proofs.Making.{few_refreshes, inputs_kept}
use Rattle.run_command.proofs.Foreign.{finding_begun}
use Rattle.run_command.proofs.Results.{at_ok, err_weaker}
use Rattle.run_command.proofs.settle.complete.Goals as goal

pub returns-in_err-find_all-clause-refused : goal.returns-in_err-find_all-clause-refused
returns-in_err-find_all-clause-refused g c =
    let p = err_from_is_err_and c.from_residual.result c.from_residual.ensures.1 in
    rw (p.1, p.2) (OfFinding c.in_err-find_all.ensures.differs)

pub returns-in_err-make_up-clause-refused : goal.returns-in_err-make_up-clause-refused
returns-in_err-make_up-clause-refused g c =
    let p = err_from_is_err_and c.from_residual-in_err-make_up.result c.from_residual-in_err-make_up.ensures.1 in
    rw (p.1, p.2) (OfMaking c.in_ok-check_endings.ensures.ended c.in_err-make_up.ensures.refused)

pub compare_pulls-requires-clause-inputs : goal.compare_pulls-requires-clause-inputs
compare_pulls-requires-clause-inputs g c =
    inputs_kept (length c.args.cells.now) _ _ _ _ _ c.make_up.ensures.cells.as_many (ap lists_of c.deref.ensures.value)
    c.make_up.ensures.books c.requires.ready.inputs

pub compare_pulls-requires-clause-few_turns : goal.compare_pulls-requires-clause-few_turns
compare_pulls-requires-clause-few_turns g c =
    few_refreshes _ _ _ c.args.given.now (length c.args.cells.now) (length c.args.books.now) c.make_up.ensures.books.as_many
    c.requires.ready.given c.in_ok-make_up.ensures.made.refreshed

pub returns-clause-refused : goal.returns-clause-refused
returns-clause-refused g c = err_weaker c.compare_pulls.result
    (λ why is. OfPull c.in_ok-check_endings.ensures.ended c.in_ok-make_up.ensures.made (subst (λ (l : List (Vec ℕ Global)). IsPullMismatch (lists_of l) c.make_up.new.cells c.make_up.new.books why)
    c.deref.ensures.value is)) c.compare_pulls.ensures.differs

pub returns-clause-pulled : goal.returns-clause-pulled
returns-clause-pulled g c = on_ok_weaker c.compare_pulls.result
    (λ pulled. subst (λ (l : List (Vec ℕ Global)). ArePulled (lists_of l) c.make_up.new.cells c.make_up.new.books) c.deref.ensures.value pulled)
    c.compare_pulls.ensures.pulled

pub returns-in_err-find_all-clause-begun : goal.returns-in_err-find_all-clause-begun
returns-in_err-find_all-clause-begun g c =
    let p = err_from_is_err_and c.from_residual.result c.from_residual.ensures.1 in
    rw (p.1, p.2) (finding_begun c.args.given.now c.args.cells.now c.args.books.now _ c.in_err-find_all.ensures.differs)

pub returns-in_err-check_endings-clause-begun : goal.returns-in_err-check_endings-clause-begun
returns-in_err-check_endings-clause-begun g c = λ none. c.in_ok-find_all.ensures.begun

pub returns-in_err-make_up-clause-begun : goal.returns-in_err-make_up-clause-begun
returns-in_err-make_up-clause-begun g c = λ none. c.make_up.ensures.begun

pub returns-clause-begun : goal.returns-clause-begun
returns-clause-begun g c = λ none. c.make_up.ensures.begun

pub returns-clause-ended : goal.returns-clause-ended
returns-clause-ended g c = at_ok c.compare_pulls.result c.in_ok-check_endings.ensures.ended

pub returns-in_err-check_endings-clause-refused : goal.returns-in_err-check_endings-clause-refused
returns-in_err-check_endings-clause-refused g c =
    let p = err_from_is_err_and c.from_residual-in_err-check_endings.result c.from_residual-in_err-check_endings.ensures.1 in
    rw (p.1, p.2) (OfStop c.in_ok-find_all.ensures.found.turns c.in_err-check_endings.ensures.stopped)

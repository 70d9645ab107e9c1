use Rattle.std.proofs.Common.{List, ℕ, subst}
use Rattle.std.proofs.lemmas.Result.{err_from_is_err_and, on_ok_weaker}
use Rattle.session_audit.specs.{IsTurnsMismatch, IsWithinTurns}
use Rattle.run_command.specs.Refusals.{OfAsk, OfRowAsk, OfTake, OfTurns}
use Rattle.run_command.proofs.Making.{all_begun, asks_begun, takes_begun}
use Rattle.run_command.proofs.Results.{at_ok, err_weaker}
use Rattle.run_command.proofs.settle.find_all.Goals as goal

pub returns-in_err-find_all_takes-clause-differs : goal.returns-in_err-find_all_takes-clause-differs
returns-in_err-find_all_takes-clause-differs g c =
    let p = err_from_is_err_and c.from_residual.result c.from_residual.ensures.1 in
    rw (p.1, p.2) (OfTake c.args.takes.now c.requires.over.collectors c.requires.no_takes c.in_err-find_all_takes.ensures.differs)

pub returns-in_err-find_all_asks-clause-differs : goal.returns-in_err-find_all_asks-clause-differs
returns-in_err-find_all_asks-clause-differs g c =
    let p = err_from_is_err_and c.from_residual-in_err-find_all_asks.result c.from_residual-in_err-find_all_asks.ensures.1 in
    rw (p.1, p.2) (OfAsk (takes_begun c.args.given.now c.args.cells.now c.find_all_takes.new.works
    (c.find_all_takes.ensures.over _ _ _ c.requires.over.collectors) c.in_ok-find_all_takes.ensures.found)
    c.args.asks.now c.requires.over.readers c.requires.no_asks c.in_err-find_all_asks.ensures.differs)

pub returns-in_err-find_all_row_asks-clause-differs : goal.returns-in_err-find_all_row_asks-clause-differs
returns-in_err-find_all_row_asks-clause-differs g c =
    let p = err_from_is_err_and c.from_residual-in_err-find_all_row_asks.result c.from_residual-in_err-find_all_row_asks.ensures.1 in
    rw (p.1, p.2) (OfRowAsk (takes_begun c.args.given.now c.args.cells.now c.find_all_takes.new.works
    (c.find_all_takes.ensures.over _ _ _ c.requires.over.collectors) c.in_ok-find_all_takes.ensures.found)
    (asks_begun c.args.given.now c.args.cells.now c.find_all_asks.new.works (c.find_all_asks.ensures.over _ _ c.requires.over.readers)
    c.in_ok-find_all_asks.ensures.found)
    c.args.row_asks.now c.requires.over.row_readers c.requires.no_row_asks c.in_err-find_all_row_asks.ensures.differs)

pub returns-clause-over : goal.returns-clause-over
returns-clause-over g c = at_ok c.compare_turns.result (record {
  collectors = c.find_all_takes.ensures.over _ _ _ c.requires.over.collectors;
  readers = c.find_all_asks.ensures.over _ _ c.requires.over.readers;
  row_readers = c.find_all_row_asks.ensures.over _ _ c.requires.over.row_readers;
})

pub returns-clause-found : goal.returns-clause-found
returns-clause-found g c = on_ok_weaker c.compare_turns.result (λ within. record {
  collectors = c.in_ok-find_all_takes.ensures.found;
  readers = c.in_ok-find_all_asks.ensures.found;
  row_readers = c.in_ok-find_all_row_asks.ensures.found;
  turns = subst (λ (l : List ℕ). IsWithinTurns l c.args.books.now) c.deref.ensures.value within;
}) c.compare_turns.ensures.within

pub returns-clause-differs : goal.returns-clause-differs
returns-clause-differs g c = err_weaker c.compare_turns.result
    (λ why is. OfTurns (all_begun c.args.given.now c.args.cells.now c.args.books.now c.find_all_takes.new.works c.find_all_asks.new.works
    c.find_all_row_asks.new.works (c.find_all_takes.ensures.over _ _ _ c.requires.over.collectors)
    (c.find_all_asks.ensures.over _ _ c.requires.over.readers) (c.find_all_row_asks.ensures.over _ _ c.requires.over.row_readers)
    c.in_ok-find_all_takes.ensures.found c.in_ok-find_all_asks.ensures.found c.in_ok-find_all_row_asks.ensures.found)
    (subst (λ (l : List ℕ). IsTurnsMismatch l c.args.books.now why) c.deref.ensures.value is))
    c.compare_turns.ensures.differs

pub returns-clause-begun : goal.returns-clause-begun
returns-clause-begun g c = at_ok c.compare_turns.result
    (all_begun c.args.given.now c.args.cells.now c.args.books.now c.find_all_takes.new.works c.find_all_asks.new.works
    c.find_all_row_asks.new.works (c.find_all_takes.ensures.over _ _ _ c.requires.over.collectors)
    (c.find_all_asks.ensures.over _ _ c.requires.over.readers) (c.find_all_row_asks.ensures.over _ _ c.requires.over.row_readers)
    c.in_ok-find_all_takes.ensures.found c.in_ok-find_all_asks.ensures.found c.in_ok-find_all_row_asks.ensures.found)

use Rattle.std.proofs.Common.{◌≡◌, ◌∙◌, ◌<◌, ℕ, List, Vec, ap, sym, subst, length, slice_index}
use Rattle.std.specs.Prelude.{All}
use Rattle.std.specs.declared.alloc.Global.{Global}
use Rattle.calc_refresh.specs.{lists_of}
use Rattle.value_rows.specs.{Query, RawRow}
use Rattle.session_audit.specs.Agendas.{ask_item, row_item, phase_item}
use Rattle.session_audit.specs.{ask_of, take_of, AreAllBegun, AreAllShown, IsAskEntry, IsCommitEntry, IsTakeEntry, cell_tape, IsTakeRefusal, tag_rows, AreTapesBegun, AreTapesWhole, book_tape, AreBooksRefreshed, durable_lists}
use Rattle.session_audit.specs.{IsRefreshRefusal, row_ask_of, IsWithinTurns}
use Rattle.collector_pool.specs.{IsRowOf}
use Rattle.tag_cell.specs.{ToldCell as Cell}
use Rattle.group_book.specs.{ToldBook as Book}
use Rattle.session_audit.proofs.Begun.{tapes_begun, whole_begun}
use Rattle.run_command.specs.Refusals.{OfCommit, OfRefresh, OfTaking}
use Rattle.run_command.specs.{AreTapesMade}
use Rattle.run_command.proofs.Kept.{books_asked, books_joined, books_refreshed, cells_joined, cells_longer, cells_pulled, committed}
use Rattle.run_command.proofs.Making.{inputs_kept, known_asks, known_row_asks}
use Rattle.std.proofs.lemmas.Result.{err_from_is_err_and, on_ok_weaker}
use Rattle.run_command.proofs.Results.{err_weaker}
use Rattle.run_command.proofs.settle.make_up.Given as given
use Rattle.run_command.proofs.settle.make_up.Goals as goal
use Rattle.run_command.proofs.settle.make_up.Goals.{After-commit_cells, After-refresh_missing}

pub take_missing-requires-clause-values : goal.take_missing-requires-clause-values
take_missing-requires-clause-values g c =
    subst (λ (l : List (Vec RawRow Global)). All (λ (rows : Vec RawRow Global). All (IsRowOf (length c.args.cells.now)) rows.items) l)
    (sym c.deref.ensures.value) c.requires.ready.given.work.rows

pub take_missing-requires-clause-counted : goal.take_missing-requires-clause-counted
take_missing-requires-clause-counted g c = λ tag below.
    let rooms = c.deref-2.ensures.value in
    ap (λ (l : List ℕ). slice_index l tag) rooms
    ∙ c.requires.ready.given.rooms tag (subst (λ n. tag < n) (ap length rooms ∙ c.requires.ready.given.rooms_are) below)
    ∙ ap (λ (l : List (Vec RawRow Global)). tag_rows tag (lists_of l)) (sym c.deref.ensures.value)

pub returns-in_err-take_missing-clause-cells : goal.returns-in_err-take_missing-clause-cells
returns-in_err-take_missing-clause-cells g c = cells_longer IsTakeEntry _ _ c.take_missing.ensures.longer

pub ask_missing-requires-clause-queries : goal.ask_missing-requires-clause-queries
ask_missing-requires-clause-queries g c =
    known_asks (length c.args.cells.now) (length c.args.books.now) _ _ _ c.deref-3.ensures.value c.take_missing.ensures.longer.as_many
    c.requires.ready.given.work.queries

pub ask_missing-requires-clause-found : goal.ask_missing-requires-clause-found
ask_missing-requires-clause-found g c = c.take_missing.ensures.asks _ c.requires.found.readers

pub ask_rows_missing-requires-clause-queries : goal.ask_rows_missing-requires-clause-queries
ask_rows_missing-requires-clause-queries g c =
    known_row_asks (length c.args.cells.now) (length c.args.books.now) _ _ c.deref-4.ensures.value c.requires.ready.given.work.queries

pub returns-in_default-clause-cells : goal.returns-in_default-clause-cells
returns-in_default-clause-cells g c = cells_joined _ _ _ (cells_longer IsTakeEntry _ _ c.take_missing.ensures.longer)
    (cells_longer IsAskEntry _ _ c.ask_missing.ensures.longer)

pub returns-in_default-clause-books : goal.returns-in_default-clause-books
returns-in_default-clause-books g c = books_asked _ _ c.ask_rows_missing.ensures.asked

pub returns-in_err-commit_cells-clause-cells : goal.returns-in_err-commit_cells-clause-cells
returns-in_err-commit_cells-clause-cells g c = cells_joined _ _ _ (cells_joined _ _ _
    (cells_longer IsTakeEntry _ _ c.take_missing.ensures.longer) (cells_longer IsAskEntry _ _ c.ask_missing.ensures.longer))
    (cells_longer IsCommitEntry _ _ c.commit_cells.ensures.longer)

pub returns-in_err-commit_cells-clause-books : goal.returns-in_err-commit_cells-clause-books
returns-in_err-commit_cells-clause-books g c = books_asked _ _ c.ask_rows_missing.ensures.asked

pub refresh_missing-requires-clause-inputs : goal.refresh_missing-requires-clause-inputs
refresh_missing-requires-clause-inputs g c =
    inputs_kept (length c.args.cells.now) _ _ _ _ _
    (c.commit_cells.ensures.longer.as_many ∙ c.ask_missing.ensures.longer.as_many ∙ c.take_missing.ensures.longer.as_many)
    (ap lists_of c.deref-5.ensures.value) (books_asked _ _ c.ask_rows_missing.ensures.asked) c.requires.ready.inputs

pub refresh_missing-requires-clause-within : goal.refresh_missing-requires-clause-within
refresh_missing-requires-clause-within g c =
    subst (λ (l : List ℕ). IsWithinTurns l c.ask_rows_missing.new.books) (sym c.deref-6.ensures.value)
    (c.ask_rows_missing.ensures.turns _ c.requires.found.turns)

-- all rows and questions are on the tapes once the takes are committed
made_at_commit : (g : given.Over) (c : After-commit_cells g) → AreTapesMade c.args.given.now c.commit_cells.new.cells c.ask_rows_missing.new.books
made_at_commit g c = record {
  takes = subst (λ (l : List (Vec RawRow Global)). AreAllShown take_of (phase_item c.args.given.now.work.earlier) (lists_of l) c.commit_cells.new.cells)
      c.deref.ensures.value (c.commit_cells.ensures.takes _ _ (c.ask_missing.ensures.takes _ _ c.in_ok-take_missing.ensures.shown));
  asks = subst (λ (l : List (Vec Query Global)). AreAllShown ask_of ask_item (lists_of l) c.commit_cells.new.cells)
      c.deref-3.ensures.value (c.commit_cells.ensures.asks _ c.in-Ok-Ok.ensures.shown);
  row_asks = subst (λ (l : List (Vec Query Global)). AreTapesWhole book_tape row_ask_of row_item (lists_of l) c.ask_rows_missing.new.books)
      c.deref-4.ensures.value c.in-Ok-Ok.ensures'.shown;
}

-- and after the refreshes too
made_at_end : (g : given.Over) (c : After-refresh_missing g) → AreTapesMade c.args.given.now c.refresh_missing.new.cells c.refresh_missing.new.books
made_at_end g c = record {
  takes = subst (λ (l : List (Vec RawRow Global)). AreAllShown take_of (phase_item c.args.given.now.work.earlier) (lists_of l) c.refresh_missing.new.cells)
      c.deref.ensures.value
      (c.refresh_missing.ensures.takes _ _ (c.commit_cells.ensures.takes _ _ (c.ask_missing.ensures.takes _ _ c.in_ok-take_missing.ensures.shown)));
  asks = subst (λ (l : List (Vec Query Global)). AreAllShown ask_of ask_item (lists_of l) c.refresh_missing.new.cells)
      c.deref-3.ensures.value (c.refresh_missing.ensures.asks _ (c.commit_cells.ensures.asks _ c.in-Ok-Ok.ensures.shown));
  row_asks = subst (λ (l : List (Vec Query Global)). AreTapesWhole book_tape row_ask_of row_item (lists_of l) c.refresh_missing.new.books)
      c.deref-4.ensures.value (c.refresh_missing.ensures.questions _ c.in-Ok-Ok.ensures'.shown);
}

pub returns-in_err-take_missing-clause-refused : goal.returns-in_err-take_missing-clause-refused
returns-in_err-take_missing-clause-refused g c =
    let p = err_from_is_err_and c.from_residual.result c.from_residual.ensures.1 in
    let phase = phase_item c.args.given.now.work.earlier in
    let why = c.in_err-take_missing.field-0.0 in
    rw (p.1, p.2) (OfTaking
    (subst (λ (l : List (Vec RawRow Global)). IsTakeRefusal phase (lists_of l) c.take_missing.new.cells why)
    c.deref.ensures.value c.in_err-take_missing.ensures.refused))

pub returns-in_err-commit_cells-clause-refused : goal.returns-in_err-commit_cells-clause-refused
returns-in_err-commit_cells-clause-refused g c =
    let p = err_from_is_err_and c.from_residual-in_err-commit_cells.result c.from_residual-in_err-commit_cells.ensures.1 in
    rw (p.1, p.2) (OfCommit (made_at_commit g (goal.at.returns-in_err-commit_cells-clause-refused g c).After-commit_cells)
    c.in_err-commit_cells.ensures.refused)

pub returns-clause-made : goal.returns-clause-made
returns-clause-made g c =
    let at = (goal.at.returns-clause-made g c).After-refresh_missing in
    on_ok_weaker c.refresh_missing.result (λ refreshed. record {
      tapes = made_at_end g at;
      committed = committed _ _ c.refresh_missing.ensures.pulled c.in_ok-commit_cells.ensures.committed;
      refreshed = subst (λ (l : List (Vec ℕ Global)). AreBooksRefreshed (durable_lists c.refresh_missing.new.cells) (lists_of l)
          c.args.given.now.turns.items c.refresh_missing.new.books) c.deref-5.ensures.value
          (subst (λ (l : List ℕ). AreBooksRefreshed (durable_lists c.refresh_missing.new.cells) (lists_of c.deref-5.result.now) l
          c.refresh_missing.new.books) c.deref-6.ensures.value refreshed);
    }) c.refresh_missing.ensures.refreshed

pub returns-clause-cells : goal.returns-clause-cells
returns-clause-cells g c = cells_joined _ _ _ (cells_joined _ _ _ (cells_joined _ _ _
    (cells_longer IsTakeEntry _ _ c.take_missing.ensures.longer) (cells_longer IsAskEntry _ _ c.ask_missing.ensures.longer))
    (cells_longer IsCommitEntry _ _ c.commit_cells.ensures.longer)) (cells_pulled _ _ c.refresh_missing.ensures.pulled)

pub returns-clause-books : goal.returns-clause-books
returns-clause-books g c = books_joined _ _ _ (books_asked _ _ c.ask_rows_missing.ensures.asked)
    (books_refreshed _ _ c.refresh_missing.ensures.gained)

pub returns-clause-refused : goal.returns-clause-refused
returns-clause-refused g c =
    let at = (goal.at.returns-clause-refused g c).After-refresh_missing in
    err_weaker c.refresh_missing.result
    (λ why is. OfRefresh (made_at_end g at) (committed _ _ c.refresh_missing.ensures.pulled c.in_ok-commit_cells.ensures.committed)
    (subst (λ (l : List (Vec ℕ Global)). IsRefreshRefusal (durable_lists c.refresh_missing.new.cells) (lists_of l)
    c.args.given.now.turns.items c.refresh_missing.new.books why) c.deref-5.ensures.value
    (subst (λ (l : List ℕ). IsRefreshRefusal (durable_lists c.refresh_missing.new.cells) (lists_of c.deref-5.result.now) l
    c.refresh_missing.new.books why) c.deref-6.ensures.value is))) c.refresh_missing.ensures.refused

-- what a tape shows of collectors, whatever their rows are read through
takes_begun : {D : Type 0} (earlier : ℕ) (cells : List (Cell D)) (xs ys : List (Vec RawRow Global)) → ys ≡ xs
    → AreAllBegun take_of (phase_item earlier) (lists_of ys) cells → AreAllBegun take_of (phase_item earlier) (lists_of xs) cells
takes_begun earlier cells xs ys same is = subst (λ l. AreAllBegun take_of (phase_item earlier) (lists_of l) cells) same is

-- so of readers
asks_begun : {D : Type 0} (cells : List (Cell D)) (xs ys : List (Vec Query Global)) → ys ≡ xs
    → AreAllBegun ask_of ask_item (lists_of ys) cells → AreAllBegun ask_of ask_item (lists_of xs) cells
asks_begun cells xs ys same is = subst (λ l. AreAllBegun ask_of ask_item (lists_of l) cells) same is

row_asks_begun : {D : Type 0} (books : List (Book D)) (xs ys : List (Vec Query Global)) → ys ≡ xs
    → AreTapesBegun book_tape row_ask_of row_item (lists_of ys) books → AreTapesBegun book_tape row_ask_of row_item (lists_of xs) books
row_asks_begun books xs ys same is = subst (λ l. AreTapesBegun book_tape row_ask_of row_item (lists_of l) books) same is

pub returns-in_err-take_missing-clause-begun : goal.returns-in_err-take_missing-clause-begun
returns-in_err-take_missing-clause-begun g c = record {
  takes = takes_begun c.args.given.now.work.earlier c.take_missing.new.cells _ _ c.deref.ensures.value c.take_missing.ensures.begun;
  asks = tapes_begun cell_tape ask_of ask_item _ _ c.take_missing.new.cells c.args.asks.now c.requires.over.readers
      (c.take_missing.ensures.asks _ c.requires.found.readers);
  row_asks = tapes_begun book_tape row_ask_of row_item _ _ c.args.books.now c.args.row_asks.now c.requires.over.row_readers
      c.requires.found.row_readers;
}

pub returns-in_default-clause-begun : goal.returns-in_default-clause-begun
returns-in_default-clause-begun g c = record {
  takes = takes_begun c.args.given.now.work.earlier c.ask_missing.new.cells _ _ c.deref.ensures.value
      (whole_begun cell_tape take_of (phase_item c.args.given.now.work.earlier) _ c.ask_missing.new.cells
      (c.ask_missing.ensures.takes _ _ c.in_ok-take_missing.ensures.shown));
  asks = asks_begun c.ask_missing.new.cells _ _ c.deref-3.ensures.value c.ask_missing.ensures.begun;
  row_asks = row_asks_begun c.ask_rows_missing.new.books _ _ c.deref-4.ensures.value c.ask_rows_missing.ensures.begun;
}

pub returns-in_err-commit_cells-clause-begun : goal.returns-in_err-commit_cells-clause-begun
returns-in_err-commit_cells-clause-begun g c = record {
  takes = takes_begun c.args.given.now.work.earlier c.commit_cells.new.cells _ _ c.deref.ensures.value
      (whole_begun cell_tape take_of (phase_item c.args.given.now.work.earlier) _ c.commit_cells.new.cells
      (c.commit_cells.ensures.takes _ _ (c.ask_missing.ensures.takes _ _ c.in_ok-take_missing.ensures.shown)));
  asks = asks_begun c.commit_cells.new.cells _ _ c.deref-3.ensures.value
      (whole_begun cell_tape ask_of ask_item _ c.commit_cells.new.cells (c.commit_cells.ensures.asks _ c.in-Ok-Ok.ensures.shown));
  row_asks = row_asks_begun c.ask_rows_missing.new.books _ _ c.deref-4.ensures.value c.ask_rows_missing.ensures.begun;
}

pub returns-clause-begun : goal.returns-clause-begun
returns-clause-begun g c = record {
  takes = takes_begun c.args.given.now.work.earlier c.refresh_missing.new.cells _ _ c.deref.ensures.value
      (whole_begun cell_tape take_of (phase_item c.args.given.now.work.earlier) _ c.refresh_missing.new.cells
      (c.refresh_missing.ensures.takes _ _ (c.commit_cells.ensures.takes _ _ (c.ask_missing.ensures.takes _ _ c.in_ok-take_missing.ensures.shown))));
  asks = asks_begun c.refresh_missing.new.cells _ _ c.deref-3.ensures.value
      (whole_begun cell_tape ask_of ask_item _ c.refresh_missing.new.cells
      (c.refresh_missing.ensures.asks _ (c.commit_cells.ensures.asks _ c.in-Ok-Ok.ensures.shown)));
  row_asks = row_asks_begun c.refresh_missing.new.books _ _ c.deref-4.ensures.value
      (whole_begun book_tape row_ask_of row_item _ c.refresh_missing.new.books
      (c.refresh_missing.ensures.questions _ c.in-Ok-Ok.ensures'.shown));
}

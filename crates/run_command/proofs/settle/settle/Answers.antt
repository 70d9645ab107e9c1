use Rattle.std.proofs.Common.{◌≡◌, ◌∙◌, List, ap, arith, is_ok, refl, rules, sym, subst, length, vec_len}
use Rattle.std.proofs.lemmas.Result.{err_from_is_err_and, on_ok_weaker}
use Rattle.collector_pool.specs.{WorkerNote}
use Rattle.run_command.specs.{HaveAllEnded, AreGivenFor, AreInputsFor}
use Rattle.run_command.specs.Refusals.{IsRefused, OfGroup, OfRest, OfTag, OfWant, notes_of}
use Rattle.run_command.proofs.Kept.{books_as_kept, cells_as_kept}
use Rattle.run_command.proofs.Making.{inputs_of_kept}
use Rattle.plant_status.specs.declared.unit.Unit.TheVariants.{Group, Tag}
use Rattle.session_audit.specs.BookOpenings.{IsBookAsKept, IsBookDifference, IsBookMismatch}
use Rattle.session_audit.specs.{IsCellAsKept, IsCellDifference, IsCellMismatch}
use Rattle.session_audit.specs.Openings.{AreAsKept}
use Rattle.calc_refresh.specs.{lists_of}
use Rattle.tag_cell.specs.{ToldCell as Cell}
use Rattle.group_book.specs.{ToldBook as Book}
use Rattle.plant_status.proofs.Gathering.{whole_again}
use Rattle.run_command.proofs.Mismatches.{mismatch_is_opening}
use Rattle.run_command.proofs.Foreign.{opening_foreign}
use Rattle.run_command.proofs.Results.{err_weaker}
use Rattle.run_command.proofs.settle.settle.Goals as goal

pub returns-in_err-compare_all-clause-known : goal.returns-in_err-compare_all-clause-known
returns-in_err-compare_all-clause-known g c =
    let p = err_from_is_err_and c.from_residual.result c.from_residual.ensures.1 in
    rw (p.1, p.2) (λ none. absurd (none (mismatch_is_opening Tag IsCellAsKept IsCellDifference _ _ c.in_err-compare_all.field-0.0 c.in_err-compare_all.ensures.differs)))

pub returns-in_err-compare_all-clause-known_groups : goal.returns-in_err-compare_all-clause-known_groups
returns-in_err-compare_all-clause-known_groups g c =
    let p = err_from_is_err_and c.from_residual.result c.from_residual.ensures.1 in
    rw (p.1, p.2) (λ none. absurd (none (mismatch_is_opening Tag IsCellAsKept IsCellDifference _ _ c.in_err-compare_all.field-0.0 c.in_err-compare_all.ensures.differs)))

pub returns-in_err-compare_all-2-clause-known_groups : goal.returns-in_err-compare_all-2-clause-known_groups
returns-in_err-compare_all-2-clause-known_groups g c =
    let p = err_from_is_err_and c.from_residual-in_err-compare_all-2.result c.from_residual-in_err-compare_all-2.ensures.1 in
    rw (p.1, p.2) (λ none. absurd (none (mismatch_is_opening Group IsBookAsKept IsBookDifference _ _ c.in_err-compare_all-2.field-0.0 c.in_err-compare_all-2.ensures.differs)))

pub complete_all-requires : goal.complete_all-requires
complete_all-requires g c =
    let many : length c.args.cells.now.items ≡ vec_len c.args.cells.now = search rules in
    let many_books : length c.args.books.now.items ≡ vec_len c.args.books.now = search rules in
    let known = subst (λ (l : List (Book g.row.D.Denot)). AreAsKept IsBookAsKept l c.args.known_groups.now) c.as_slice-2.ensures.value
    c.in_ok-compare_all-2.ensures.same in
    rw (c.as_mut_slice.ensures.value, c.as_mut_slice-in-Ok.ensures.value) (record {
      ready = record {
        few_cells = omega (arith, c.requires.few_cells, many);
        few_books = omega (arith, c.requires.few_books, many_books);
        given = subst (λ n. AreGivenFor n (length c.args.books.now.items) c.args.given.now) (sym many)
            (subst (λ n. AreGivenFor (vec_len c.args.cells.now) n c.args.given.now) (sym many_books) c.requires.given);
        inputs = inputs_of_kept (length c.args.cells.now.items) _ _ _ (c.requires.groups_are ∙ sym many_books)
            (subst (λ n. AreInputsFor n (lists_of c.args.given.now.inputs.items) c.args.known_groups.now) (sym many) c.requires.inputs) known;
      };
    })

pub returns-in-Ok-clause-known : goal.returns-in-Ok-clause-known
returns-in-Ok-clause-known g c = λ none.
    rw (whole_again c.args.cells.now.len c.args.cells.now.items c.complete_all.new.cells (search rules) (search rules))
    (cells_as_kept _ _ _ c.complete_all.ensures.cells
    (subst (λ (l : List (Cell g.row.D.Denot)). AreAsKept IsCellAsKept l c.args.known.now) (c.as_slice.ensures.value ∙ sym c.as_mut_slice.ensures.value)
    c.in_ok-compare_all.ensures.same))

pub returns-in-Ok-clause-known_groups : goal.returns-in-Ok-clause-known_groups
returns-in-Ok-clause-known_groups g c = λ none.
    rw (whole_again c.args.books.now.len c.args.books.now.items c.complete_all.new.books (search rules) (search rules))
    (books_as_kept _ _ _ c.complete_all.ensures.books
    (subst (λ (l : List (Book g.row.D.Denot)). AreAsKept IsBookAsKept l c.args.known_groups.now)
    (c.as_slice-2.ensures.value ∙ sym c.as_mut_slice-in-Ok.ensures.value) c.in_ok-compare_all-2.ensures.same))

pub returns-in-Ok-clause-refused : goal.returns-in-Ok-clause-refused
returns-in-Ok-clause-refused g c =
    rw (
      whole_again c.args.cells.now.len c.args.cells.now.items c.complete_all.new.cells (search rules) (search rules),
      whole_again c.args.books.now.len c.args.books.now.items c.complete_all.new.books (search rules) (search rules),
    )
    (err_weaker c.complete_all.result
    (λ why is. OfRest (subst (λ (l : List WorkerNote). IsRefused c.args.given.now l c.complete_all.new.cells c.complete_all.new.books why)
    (c.deref.ensures.value ∙ sym (ap notes_of c.in-Ok.is)) is)) c.complete_all.ensures.refused)

pub returns-in-Ok-clause-made : goal.returns-in-Ok-clause-made
returns-in-Ok-clause-made g c =
    rw (
      whole_again c.args.cells.now.len c.args.cells.now.items c.complete_all.new.cells (search rules) (search rules),
      whole_again c.args.books.now.len c.args.books.now.items c.complete_all.new.books (search rules) (search rules),
    )
    c.complete_all.ensures.made

pub returns-in-Ok-clause-pulled : goal.returns-in-Ok-clause-pulled
returns-in-Ok-clause-pulled g c =
    rw (
      whole_again c.args.cells.now.len c.args.cells.now.items c.complete_all.new.cells (search rules) (search rules),
      whole_again c.args.books.now.len c.args.books.now.items c.complete_all.new.books (search rules) (search rules),
    )
    c.complete_all.ensures.pulled

pub returns-in-Err-clause-refused : goal.returns-in-Err-clause-refused
returns-in-Err-clause-refused g c = OfRest (OfWant refl)

pub returns-in_err-compare_all-clause-begun : goal.returns-in_err-compare_all-clause-begun
returns-in_err-compare_all-clause-begun g c =
    let p = err_from_is_err_and c.from_residual.result c.from_residual.ensures.1 in
    rw (p.1, p.2) (λ none. absurd (none (opening_foreign _ (mismatch_is_opening Tag IsCellAsKept IsCellDifference _ _ c.in_err-compare_all.field-0.0 c.in_err-compare_all.ensures.differs))))

pub returns-in_err-compare_all-2-clause-begun : goal.returns-in_err-compare_all-2-clause-begun
returns-in_err-compare_all-2-clause-begun g c =
    let p = err_from_is_err_and c.from_residual-in_err-compare_all-2.result c.from_residual-in_err-compare_all-2.ensures.1 in
    rw (p.1, p.2) (λ none. absurd (none (opening_foreign _ (mismatch_is_opening Group IsBookAsKept IsBookDifference _ _ c.in_err-compare_all-2.field-0.0 c.in_err-compare_all-2.ensures.differs))))

pub returns-in-Ok-clause-ended : goal.returns-in-Ok-clause-ended
returns-in-Ok-clause-ended g c = on_ok_weaker c.complete_all.result
    (λ ended. subst HaveAllEnded (c.deref.ensures.value ∙ sym (ap notes_of c.in-Ok.is)) ended) c.complete_all.ensures.ended

pub returns-in-Ok-clause-ran : goal.returns-in-Ok-clause-ran
returns-in-Ok-clause-ran g c = λ none. ap is_ok c.in-Ok.is

pub returns-in-Ok-clause-begun : goal.returns-in-Ok-clause-begun
returns-in-Ok-clause-begun g c = λ none.
    rw (
      whole_again c.args.cells.now.len c.args.cells.now.items c.complete_all.new.cells (search rules) (search rules),
      whole_again c.args.books.now.len c.args.books.now.items c.complete_all.new.books (search rules) (search rules),
    )
    (c.complete_all.ensures.begun none)

pub returns-in_err-compare_all-clause-refused : goal.returns-in_err-compare_all-clause-refused
returns-in_err-compare_all-clause-refused g c =
    let p = err_from_is_err_and c.from_residual.result c.from_residual.ensures.1 in
    rw (p.1, p.2) (OfTag (subst (λ (l : List (Cell g.row.D.Denot)). IsCellMismatch l c.args.known.now c.in_err-compare_all.field-0.0)
    c.as_slice.ensures.value c.in_err-compare_all.ensures.differs))

pub returns-in_err-compare_all-2-clause-refused : goal.returns-in_err-compare_all-2-clause-refused
returns-in_err-compare_all-2-clause-refused g c =
    let p = err_from_is_err_and c.from_residual-in_err-compare_all-2.result c.from_residual-in_err-compare_all-2.ensures.1 in
    rw (p.1, p.2) (OfGroup
    (subst (λ (l : List (Cell g.row.D.Denot)). AreAsKept IsCellAsKept l c.args.known.now) c.as_slice.ensures.value c.in_ok-compare_all.ensures.same)
    (subst (λ (l : List (Book g.row.D.Denot)). IsBookMismatch l c.args.known_groups.now c.in_err-compare_all-2.field-0.0) c.as_slice-2.ensures.value
    c.in_err-compare_all-2.ensures.differs))

pub returns-in_err-compare_all-clause-ran : goal.returns-in_err-compare_all-clause-ran
returns-in_err-compare_all-clause-ran g c =
    let p = err_from_is_err_and c.from_residual.result c.from_residual.ensures.1 in
    rw (p.1, p.2) (λ none. absurd (none (opening_foreign _ (mismatch_is_opening Tag IsCellAsKept IsCellDifference _ _ c.in_err-compare_all.field-0.0 c.in_err-compare_all.ensures.differs))))

pub returns-in_err-compare_all-2-clause-ran : goal.returns-in_err-compare_all-2-clause-ran
returns-in_err-compare_all-2-clause-ran g c =
    let p = err_from_is_err_and c.from_residual-in_err-compare_all-2.result c.from_residual-in_err-compare_all-2.ensures.1 in
    rw (p.1, p.2) (λ none. absurd (none (opening_foreign _ (mismatch_is_opening Group IsBookAsKept IsBookDifference _ _ c.in_err-compare_all-2.field-0.0 c.in_err-compare_all-2.ensures.differs))))

use Rattle.std.proofs.Common.{List, Result, Vec, refl, subst, sym}
use Rattle.std.specs.Prelude.{IfErr}
use Rattle.std.specs.List.{AllZip}
use Rattle.std.specs.declared.alloc.Global.{Global}
use Rattle.tag_cell.specs.{ToldCell as Cell}
use Rattle.group_book.specs.{ToldBook as Book}
use Rattle.plant_status.specs.declared.status.Status.{Status}
use Rattle.session_audit.specs.{IsCellCopied}
use Rattle.session_audit.specs.BookOpenings.{IsBookCopied}
use Rattle.run_command.specs.Refusals.{AdmitsForeign}
use Rattle.run_command.specs.Runs.{IsContinued, IsContinuedGroup, OfSettling}
use Rattle.run_command.specs.Sessions.{OfNone}
use Rattle.run_command.specs.Runs as runs
use Rattle.run_command.proofs.Continued.{as_many_known, continued, groups_continued, groups_still, inputs_copied, still}
use Rattle.run_command.proofs.Results.{err_weaker}
use Rattle.run_command.proofs.phase.hold_phase.Goals as goal

pub hold-requires-clause-inputs : goal.hold-requires-clause-inputs
hold-requires-clause-inputs g c κs within =
    inputs_copied _ _ c.args.books.items c.in-Ok.ready.groups.items c.requires.inputs
    (subst (λ (l : List (Book g.row.D.Denot)). AllZip IsBookCopied l c.in-Ok.ready.groups.items) c.deref-2.ensures.value c.in-Ok.ensures.groups)

pub returns-in-Ok-clause-same_cells : goal.returns-in-Ok-clause-same_cells
returns-in-Ok-clause-same_cells g c = λ none.
    continued c.args.cells.items c.hold.result.cells.items c.in-Ok.ready.tags.items
    (as_many_known c.args.cells c.hold.result.cells _ c.in-Ok.ready.tags c.deref.ensures.value c.in-Ok.ensures.tags_are c.hold.ensures.cells)
    (subst (λ (l : List (Cell g.row.D.Denot)). AllZip IsCellCopied l c.in-Ok.ready.tags.items) c.deref.ensures.value c.in-Ok.ensures.tags)
    (c.hold.ensures.known none)

pub returns-in-Ok-clause-same_books : goal.returns-in-Ok-clause-same_books
returns-in-Ok-clause-same_books g c = λ none.
    groups_continued c.args.books.items c.hold.result.books.items c.in-Ok.ready.groups.items
    (as_many_known c.args.books c.hold.result.books _ c.in-Ok.ready.groups c.deref-2.ensures.value c.in-Ok.ensures.groups_are
    c.hold.ensures.books)
    (subst (λ (l : List (Book g.row.D.Denot)). AllZip IsBookCopied l c.in-Ok.ready.groups.items) c.deref-2.ensures.value c.in-Ok.ensures.groups)
    (c.hold.ensures.known_groups none)

pub returns-in-Ok-clause-undone : goal.returns-in-Ok-clause-undone
returns-in-Ok-clause-undone g c = err_weaker c.hold.result.answer
    (λ why is. OfSettling c.in-Ok.ready.tags.items c.in-Ok.ready.groups.items
    (subst (λ (l : List (Cell g.row.D.Denot)). AllZip IsCellCopied l c.in-Ok.ready.tags.items) c.deref.ensures.value c.in-Ok.ensures.tags)
    (subst (λ (l : List (Book g.row.D.Denot)). AllZip IsBookCopied l c.in-Ok.ready.groups.items) c.deref-2.ensures.value c.in-Ok.ensures.groups)
    is)
    c.hold.ensures.refused

pub returns-in-Err-clause-notes : goal.returns-in-Err-clause-notes
returns-in-Err-clause-notes g c = OfNone c.unready.ensures.notes refl

pub returns-in-Err-clause-same_cells : goal.returns-in-Err-clause-same_cells
returns-in-Err-clause-same_cells g c = λ none.
    subst (λ (v : Vec (Cell g.row.D.Denot) Global). AllZip IsContinued c.args.cells.items v.items) (sym c.unready.ensures.cells)
    (still c.args.cells.items)

pub returns-in-Err-clause-same_books : goal.returns-in-Err-clause-same_books
returns-in-Err-clause-same_books g c = λ none.
    subst (λ (v : Vec (Book g.row.D.Denot) Global). AllZip IsContinuedGroup c.args.books.items v.items) (sym c.unready.ensures.books)
    (groups_still c.args.books.items)

pub returns-in-Err-clause-undone : goal.returns-in-Err-clause-undone
returns-in-Err-clause-undone g c =
    subst (λ (r : Result (Unit {0}) Status). IfErr r (runs.IsUndone c.args.given.now c.args.cells.items c.args.books.items
    c.unready.result.cells.items c.unready.result.books.items c.unready.result.notes.items)) (sym c.unready.ensures.answer)
    (runs.OfNone refl)

pub returns-in-Err-clause-begun : goal.returns-in-Err-clause-begun
returns-in-Err-clause-begun g c = λ none.
    absurd (none (subst (λ (r : Result (Unit {0}) Status). AdmitsForeign r) (sym c.unready.ensures.answer) tt))

pub returns-in-Err-clause-ran : goal.returns-in-Err-clause-ran
returns-in-Err-clause-ran g c = λ none.
    absurd (none (subst (λ (r : Result (Unit {0}) Status). AdmitsForeign r) (sym c.unready.ensures.answer) tt))

pub returns-in-Err-clause-ended : goal.returns-in-Err-clause-ended
returns-in-Err-clause-ended g c = rw c.unready.ensures.answer tt

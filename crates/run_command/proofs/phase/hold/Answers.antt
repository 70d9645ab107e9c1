use Rattle.std.proofs.Common.{List, sym, subst}
use Rattle.collector_pool.specs.{WorkerNote}
use Rattle.session_audit.specs.{Kept, KeptGroup, IsCellAsKept}
use Rattle.session_audit.specs.Openings.{AreAsKept}
use Rattle.session_audit.specs.BookOpenings.{IsBookAsKept}
use Rattle.run_command.specs.Refusals.{IsSettlingRefusal, notes_of}
use Rattle.std.specs.Prelude.{OnOk}
use Rattle.run_command.specs.{HaveAllEnded}
use Rattle.run_command.specs.Sessions.{AreNotes, AreNotesOfAll}
use Rattle.run_command.proofs.Notes.{notes_are, ran_all}
use Rattle.run_command.proofs.Results.{err_weaker}
use Rattle.run_command.proofs.phase.hold.Goals as goal

pub returns-clause-notes : goal.returns-clause-notes
returns-clause-notes g c =
    subst (λ (l : List WorkerNote). AreNotes c.args.given.now.work (g.P.Passes.stops c.args.passes.now)
    (g.P.Passes.stops c.run_workers-cells.new.passes) l) (sym c.notes_in.ensures)
    (notes_are c.args.given.now.work _ _ c.run_workers-cells.result.notes c.run_workers-cells.ensures.notes
    c.run_workers-cells.ensures.stops c.run_workers-cells.ensures.unbegun)

pub returns-clause-known : goal.returns-clause-known
returns-clause-known g c = λ none.
    subst (λ (l : List Kept). AreAsKept IsCellAsKept c.settle-answer.new.cells.items l) c.deref.ensures.value (c.settle-answer.ensures.known none)

pub returns-clause-known_groups : goal.returns-clause-known_groups
returns-clause-known_groups g c = λ none.
    subst (λ (l : List KeptGroup). AreAsKept IsBookAsKept c.settle-answer.new.books.items l) c.deref-2.ensures.value
    (c.settle-answer.ensures.known_groups none)

pub returns-clause-refused : goal.returns-clause-refused
returns-clause-refused g c =
    let given = c.args.given.now in
    let notes = notes_of c.run_workers-cells.result.notes in
    let cells = c.settle-answer.new.cells.items in
    let books = c.settle-answer.new.books.items in
    let tags = c.args.ready.tags.items in
    let groups = c.args.ready.groups.items in
    err_weaker c.settle-answer.result (λ why is.
    subst (λ (l : List WorkerNote). IsSettlingRefusal given l tags groups cells books why) (sym c.notes_in.ensures)
    (subst (λ (l : List Kept). IsSettlingRefusal given notes l groups cells books why) c.deref.ensures.value
    (subst (λ (l : List KeptGroup). IsSettlingRefusal given notes c.deref.result.now l cells books why) c.deref-2.ensures.value is)))
    c.settle-answer.ensures.refused

pub returns-clause-ran : goal.returns-clause-ran
returns-clause-ran g c = λ none.
    subst (λ (l : List WorkerNote). AreNotesOfAll c.args.given.now.work l) (sym c.notes_in.ensures)
    (ran_all c.args.given.now.work c.run_workers-cells.result.notes c.run_workers-cells.ensures.notes
    (c.settle-answer.ensures.ran none))

pub returns-clause-ended : goal.returns-clause-ended
returns-clause-ended g c =
    subst (λ (l : List WorkerNote). OnOk c.settle-answer.result (HaveAllEnded l)) (sym c.notes_in.ensures) c.settle-answer.ensures.ended

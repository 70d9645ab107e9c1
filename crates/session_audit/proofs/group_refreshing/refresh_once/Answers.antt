use Rattle.std.proofs.Common.{◌∙◌, refl, subst}
use Rattle.std.proofs.lemmas.List.{length-map}
use Rattle.std.proofs.lemmas.Result.{err_from_is_err_and}
use Rattle.group_book.specs.{lists_at, IsPublished, pulled_records, versions_of}
use Rattle.group_book.proofs.InputLists.{ahead_refuses, pulls_go_on, sheet_refuses_lists}
use Rattle.session_audit.specs.{durable_lists}
use Rattle.session_audit.proofs.MoreTurns.{numbers_are}
use Rattle.session_audit.proofs.group_refreshing.refresh_once.Goals as goal

pub publish-requires-clause-inputs : goal.publish-requires-clause-inputs
publish-requires-clause-inputs g c =
    c.in_ok-pulled.ensures.pulls.as_many ∙ length-map c.args.tags.now _ ∙ c.requires.inputs.same

pub publish-requires-clause-goes_on : goal.publish-requires-clause-goes_on
publish-requires-clause-goes_on g c =
    pulls_go_on (lists_at (durable_lists c.args.cells.now) c.args.tags.now) (versions_of c.args.book.now) c.args.book.now.sheet.copies
    c.in_ok-pulled.pulled.items refl (length-map c.args.tags.now _ ∙ c.pull_all.ensures.inputs) c.in_ok-pulled.ensures.pulls

pub returns-clause-published : goal.returns-clause-published
returns-clause-published g c =
    subst (λ l. IsPublished l c.args.book.now c.publish.new.self) c.in_ok-pulled.ensures.pulls.records c.in_ok-publish.ensures.published

pub returns-clause-versions : goal.returns-clause-versions
returns-clause-versions g c =
    c.in_ok-publish.ensures.upto ∙ c.in_ok-pulled.ensures.pulls.ends ∙ numbers_are (durable_lists c.args.cells.now) c.args.tags.now

pub returns-in_err-publish-clause-refused : goal.returns-in_err-publish-clause-refused
returns-in_err-publish-clause-refused g c =
    let p = err_from_is_err_and c.from_residual-in_err-publish.result c.from_residual-in_err-publish.ensures.1 in
    rw (p.1, p.2) (sheet_refuses_lists (lists_at (durable_lists c.args.cells.now) c.args.tags.now) c.args.book.now
    (pulled_records c.in_ok-pulled.pulled.items) c.in_err-publish.field-0.0 c.in_ok-pulled.ensures.pulls.records
    c.in_err-publish.ensures.fault)

pub returns-in_err-pulled-clause-refused : goal.returns-in_err-pulled-clause-refused
returns-in_err-pulled-clause-refused g c =
    let p = err_from_is_err_and c.from_residual.result c.from_residual.ensures.1 in
    rw (p.1, p.2) (ahead_refuses (lists_at (durable_lists c.args.cells.now) c.args.tags.now) c.args.book.now c.in_err-pulled.field-0.0
    c.in_err-pulled.ensures.ahead)

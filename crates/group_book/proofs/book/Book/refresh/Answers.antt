use Rattle.std.proofs.Common.{arith, ◌≡◌, List, ℕ, length, sym, ap, ◌∙◌, subst}
use Rattle.calc_refresh.specs.{cells_after, total_length}
use Rattle.sheet_law.specs.{longer}
use Rattle.group_book.specs.{GivesNone, GoesOn, ToldBook, pulled_records, versions_of}
use Rattle.group_book.proofs.Causes.{goes_from, pull_refused, sheet_refuses, with_pulls}
use Rattle.group_book.proofs.book.Book.refresh.Goals as goal

pub publish-requires-clause-goes_on : goal.publish-requires-clause-goes_on
publish-requires-clause-goes_on g c =
    let b = c.self.inside in
    let ps = c.in-Ok.pulled.items in
    let inputs : length ps ≡ length b.sheet.copies
    = c.in-Ok.ensures.len ∙ ap length c.deref.ensures.value ∙ c.self.invariant.0.tags_are ∙ sym c.self.invariant.0.copies in
    subst (λ (t : ToldBook _). GoesOn t.sheet.copies ps) c.self.view_is
    (goes_from c.deref-2.result.now b.sheet.copies ps (c.deref-2.ensures.value ∙ c.self.invariant.1.copied) inputs
    c.in-Ok.ensures.goes_on)

pub returns-in-Ok-clause-published : goal.returns-in-Ok-clause-published
returns-in-Ok-clause-published g c =
    let ps = c.in-Ok.pulled.items in
    with_pulls c.publish.result (pulled_records ps) c.args.self.now c.publish.new.self c.args.self.now.tags (length c.args.cells.now)
    c.publish.ensures.published
    (subst (λ (l : List ℕ). GivesNone l (length c.args.cells.now) (pulled_records ps))
    (c.deref.ensures.value ∙ ap (λ (t : ToldBook _). t.tags) c.self.view_is) c.in-Ok.ensures.none)

pub returns-in-Ok-clause-cause : goal.returns-in-Ok-clause-cause
returns-in-Ok-clause-cause g c =
    let mores = pulled_records c.in-Ok.pulled.items in
    let s = c.args.self.now.sheet in
    sheet_refuses (versions_of c.args.self.now) (cells_after s mores) (total_length (longer s.copies mores)) c.publish.result
    c.publish.ensures.fault

pub returns-in-Err-clause-cause : goal.returns-in-Err-clause-cause
returns-in-Err-clause-cause g c = grind (arith, pull_refused)

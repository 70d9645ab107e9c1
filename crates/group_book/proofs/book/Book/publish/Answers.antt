use Rattle.std.proofs.Common.{◌≡◌, ℕ, ◌+◌, ◌++◌, ◌∷◌, [], Bool, List, map, length, refl, sym, ap, ◌∙◌, subst, arith}
use Rattle.std.proofs.lemmas.List.{length-map, with_items_is}
use Rattle.calc_refresh.specs.{lists_of, IsRefreshed, evaluated, grid_of}
use Rattle.group_book.specs.{Turn, AreFlagged, GoesOn, is_unsaved, ToldBook, pulled_records, AreRowsEvaluated}
use Rattle.group_book.specs.declared.turn.Turn.TheVariants.{Refresh}
use Rattle.group_book.proofs.Evaluations.{evaluated_refreshed}
use Rattle.sheet_law.specs.{Grid}
use Rattle.group_book.proofs.Flags.{flagged_refreshed}
use Rattle.group_book.proofs.Pulls.{book_refreshed, published_by, versions_reached}
use Rattle.group_book.proofs.book.Book.publish.Given as given
use Rattle.group_book.proofs.book.Book.publish.Goals as goal
use Rattle.group_book.proofs.book.Book.publish.Goals.{After-push_reserved}

-- what was pulled continues from the copies, with one pull for each input
goes : (g : given.Over) (c : After-push_reserved g) → GoesOn c.self.inside.sheet.copies c.args.pulled.items
goes g c = subst (λ (t : ToldBook _). GoesOn t.sheet.copies c.args.pulled.items) (sym c.self.view_is) c.requires.goes_on

inputs : (g : given.Over) (c : After-push_reserved g) → length c.args.pulled.items ≡ length c.self.inside.sheet.copies
inputs g c = c.requires.inputs ∙ sym (ap (λ (t : ToldBook _). t.def.inputs) c.self.view_is) ∙ sym c.self.invariant.0.copies

-- so the sheet is refreshed by it
refreshed : (g : given.Over) (c : After-push_reserved g)
    → IsRefreshed c.self.inside.sheet c.apply.new.self (pulled_records c.args.pulled.items)
refreshed g c =
    subst (IsRefreshed c.self.inside.sheet c.apply.new.self) (ap lists_of c.deref-3.ensures.value ∙ c.in_ok-deltas.ensures)
    c.in_ok-apply.ensures.refreshed

-- and the tape records how far the inputs were pulled
told : (g : given.Over) (c : After-push_reserved g)
    → c.push_reserved.new.self.items ≡ c.self.inside.tape.items ++ Refresh c.in_ok-entry.entry ∷ []
told g c = c.push_reserved.ensures.items ∙ ap (λ (l : List Turn). l ++ Refresh c.in_ok-entry.entry ∷ []) c.make_place.ensures.same

reached : (g : given.Over) (c : After-push_reserved g) (us : List ℕ) → us ≡ map (λ p. p.upto) c.args.pulled.items
    → us ≡ map length c.apply.new.self.copies
reached g c us are = versions_reached c.self.inside.sheet c.apply.new.self c.args.pulled.items us (goes g c) (inputs g c) (refreshed g c) are

pub apply-requires-clause-inputs : goal.apply-requires-clause-inputs
apply-requires-clause-inputs g c =
    let ps = c.args.pulled.items in
    ap length c.deref-3.ensures.value
    ∙ sym (length-map c.in_ok-deltas.deltas.items (λ v. v.items)) ∙ ap length c.in_ok-deltas.ensures ∙ length-map ps (λ p. p.recs.items)
    ∙ c.requires.inputs ∙ sym (ap (λ (t : ToldBook _). t.def.inputs) c.self.view_is) ∙ sym c.self.invariant.0.copies

pub invariant_of-self-2 : goal.invariant_of-self-2
invariant_of-self-2 g c =
    let b = c.self.inside in
    let at = (goal.at.invariant_of-self-2 g c).After-push_reserved in
    let entry = reached g at c.in_ok-entry.entry.items (c.in_ok-entry.ensures ∙ ap (map (λ p. p.upto)) c.deref.ensures.value) in
    let versions = reached g at c.in_ok-versions.versions.items
    (c.in_ok-versions.ensures ∙ ap (map (λ p. p.upto)) c.deref-2.ensures.value) in
    let was = c.self.invariant in
    let now = book_refreshed b.text.items b.def b.tags.items b.opening b.tape.items c.push_reserved.new.self.items b.versions.items
    c.in_ok-versions.versions.items c.in_ok-entry.entry b.sheet c.apply.new.self (pulled_records c.args.pulled.items)
    (record { number = b.number; versions = b.saved_versions.items; rows = lists_of b.saved_rows.items; end = b.end }) b.failed _ _ _ _
    (was.0, was.1, was.2, was.3) (refreshed g at) entry versions (told g at) in
    let done = refreshed g at in (
      now.0,
      now.1,
      now.2,
      now.3,
      was.4,
      subst (λ (l : List Turn). AreRowsEvaluated b.def.calcs (grid_of b.def.start b.def.period) b.opening l c.apply.new.self.copies
          c.apply.new.self.rows c.apply.new.self.evals) (sym (told g at))
          (evaluated_refreshed b.def.calcs (grid_of b.def.start b.def.period) b.opening b.tape.items b.versions.items b.sheet
          c.apply.new.self (pulled_records c.args.pulled.items) c.in_ok-entry.entry was.0.same_group was.0.same_grid was.1 was.5 done
          (length-map c.args.pulled.items (λ p. p.recs.items) ∙ inputs g at) was.0.grid.some
          (omega (arith, was.0.copies, was.0.group.some_inputs)) (entry ∙ ap (map length) done.copies)),
      subst (λ l. AreFlagged l (lists_of b.saved_rows.items) c.apply.new.self)
          (sym (with_items_is b.unsaved c.set_flags.new.flags (omega (arith, c.set_flags.auto.flags, c.deref_mut.ensures.len))))
          (flagged_refreshed b.sheet c.apply.new.self (pulled_records c.args.pulled.items) done
          (omega (arith, was.0.grid.some, ap (λ (w : Grid). w.period) was.0.same_grid)) b.unsaved.items c.set_flags.new.flags
          (lists_of b.saved_rows.items) c.due.result.now was.6 c.due.ensures (c.set_flags.auto.flags ∙ ap length c.deref_mut.ensures.value)
          c.set_flags.ensures.set
          (λ k none. c.set_flags.ensures.others k none ∙ ap (λ (l : List Bool). is_unsaved l k) c.deref_mut.ensures.value)),
    )

pub returns-clause-published : goal.returns-clause-published
returns-clause-published g c =
    let at = (goal.at.returns-clause-published g c).After-push_reserved in
    let entry = reached g at c.in_ok-entry.entry.items (c.in_ok-entry.ensures ∙ ap (map (λ p. p.upto)) c.deref.ensures.value) in
    published_by (pulled_records c.args.pulled.items) _ c.args.self.now c.apply.new.self c.push_reserved.new.self.items c.in_ok-entry.entry
    c.self.view_is (told g at) entry (refreshed g at)

pub returns-clause-upto : goal.returns-clause-upto
returns-clause-upto g c =
    let at = (goal.at.returns-clause-upto g c).After-push_reserved in
    sym (reached g at (map (λ p. p.upto) c.args.pulled.items) refl)

pub returns-clause-steps : goal.returns-clause-steps
returns-clause-steps g c =
    c.in_ok-apply.ensures.steps
    ∙ ap (λ mores. c.args.steps.now + evaluated c.self.inside.sheet mores) (ap lists_of c.deref-3.ensures.value ∙ c.in_ok-deltas.ensures)
    ∙ ap (λ (t : ToldBook _). c.args.steps.now + evaluated t.sheet (pulled_records c.args.pulled.items)) c.self.view_is

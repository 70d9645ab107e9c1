use Rattle.std.proofs.Common.{◌≡◌, ℕ, List, [], Result, Err, OnOk, inl, inr, refl, subst, sym}
use Rattle.std.specs.Prelude.{IfErr}
use Rattle.std.proofs.lemmas.List.{append-nil}
use Rattle.plant_status.specs.declared.status.Status.{Status}
use Rattle.run_command.specs.{HaveAllEnded, AreStepsMade, AreNotesOfAllBoth, OfFirst, OfFirstPull, OfSecond}
use Rattle.run_command.specs.Refusals.{AdmitsForeign, IsOfOpening}
use Rattle.run_command.specs.Runs.{IsUndone}
use Rattle.run_command.specs.Sessions.{OfNone}
use Rattle.run_command.proofs.Continued.{books_on, cells_on, inputs_continued}
use Rattle.run_command.proofs.DrillPulls.{held_before, refused_by, still_refused}
use Rattle.run_command.proofs.DrillUndone.{all_or_none}
use Rattle.std.proofs.lemmas.Result.{on_ok_weaker}
use Rattle.calc_refresh.specs.{lists_of}
use Rattle.tag_cell.specs.{ToldCell as Cell}
use Rattle.session_audit.specs.{IsFirstPullMismatch}
use Rattle.session_audit.specs.Pulls.{ArePulled}
use Rattle.run_command.proofs.drill_phases.hold_both.Given as given
use Rattle.run_command.proofs.drill_phases.hold_both.Goals as goal
use Rattle.run_command.proofs.drill_phases.hold_both.Goals.{After-go_on-cells}

pub go_on-cells-requires-clause-inputs : goal.go_on-cells-requires-clause-inputs
go_on-cells-requires-clause-inputs g c κs within =
    inputs_continued _ _ _ _ c.args.books.items c.hold_phase-cells.result.books.items c.hold_phase-cells.ensures.cells
    c.requires.same_inputs c.requires.inputs
    (c.hold_phase-cells.ensures.same_books (λ of. subst (λ (r : Result (Unit {0}) Status). IsOfOpening r) c.in-Ok.is of))

-- what the comparison refuses is no changed opening, and no take of no file
not_opening : (was now : Result (Unit {0}) Status) → IfErr was (λ why. now ≡ Err why) → (IsOfOpening now → ⊥) → IsOfOpening was → ⊥
not_opening was now same none of = none (still_refused IsOfOpening was now same (λ x no. absurd no) of)

not_foreign : (was now : Result (Unit {0}) Status) → IfErr was (λ why. now ≡ Err why) → (AdmitsForeign now → ⊥) → AdmitsForeign was → ⊥
not_foreign was now same none of = none (still_refused AdmitsForeign was now same (λ x no. absurd no) of)

-- the notes of both phases, if the second is done
both_ran : (g : given.Over) (c : After-go_on-cells g) → OnOk c.go_on-cells.result.answer
    (AreNotesOfAllBoth c.args.first.now.work c.args.second.now.work c.go_on-cells.result.notes.items)
both_ran g c = on_ok_weaker c.go_on-cells.result.answer
    (λ ran. record {
      front = c.hold_phase-cells.result.notes.items;
      more = ran.more;
      behind = ran.behind;
      of_first = c.hold_phase-cells.ensures.ran (λ of. subst (λ (r : Result (Unit {0}) Status). AdmitsForeign r) c.in-Ok.is of);
      of_second = ran.are;
    })
    c.go_on-cells.ensures.ran

pub returns-in-Ok-clause-ended : goal.returns-in-Ok-clause-ended
returns-in-Ok-clause-ended g c = held_before _ _ _ c.compare_phases-answer.ensures.undone c.go_on-cells.ensures.ended

pub returns-in-Ok-clause-made : goal.returns-in-Ok-clause-made
returns-in-Ok-clause-made g c = held_before _ _ _ c.compare_phases-answer.ensures.undone c.go_on-cells.ensures.made

pub returns-in-Ok-clause-pulled : goal.returns-in-Ok-clause-pulled
returns-in-Ok-clause-pulled g c = held_before _ _ _ c.compare_phases-answer.ensures.undone c.go_on-cells.ensures.pulled

pub returns-in-Ok-clause-same_cells : goal.returns-in-Ok-clause-same_cells
returns-in-Ok-clause-same_cells g c = λ none.
    cells_on c.args.cells.items c.hold_phase-cells.result.cells.items c.go_on-cells.result.cells.items
    (c.hold_phase-cells.ensures.same_cells (λ of. subst (λ (r : Result (Unit {0}) Status). IsOfOpening r) c.in-Ok.is of))
    (c.go_on-cells.ensures.same_cells (not_opening _ _ c.compare_phases-answer.ensures.undone none))

pub returns-in-Ok-clause-same_books : goal.returns-in-Ok-clause-same_books
returns-in-Ok-clause-same_books g c = λ none.
    books_on c.args.books.items c.hold_phase-cells.result.books.items c.go_on-cells.result.books.items
    (c.hold_phase-cells.ensures.same_books (λ of. subst (λ (r : Result (Unit {0}) Status). IsOfOpening r) c.in-Ok.is of))
    (c.go_on-cells.ensures.same_books (not_opening _ _ c.compare_phases-answer.ensures.undone none))

pub returns-in-Ok-clause-undone : goal.returns-in-Ok-clause-undone
returns-in-Ok-clause-undone g c = refused_by c.go_on-cells.result.answer _ c.compare_phases-answer.ensures.undone
    c.go_on-cells.ensures.undone c.compare_phases-answer.ensures.differs
    (λ why is. OfSecond c.hold_phase-cells.result.cells.items c.hold_phase-cells.result.books.items
    c.hold_phase-cells.result.notes.items
    (c.hold_phase-cells.ensures.ran (λ of. subst (λ (r : Result (Unit {0}) Status). AdmitsForeign r) c.in-Ok.is of))
    (subst (λ (r : Result (Unit {0}) Status). OnOk r (HaveAllEnded c.hold_phase-cells.result.notes.items)) c.in-Ok.is c.hold_phase-cells.ensures.ended)
    (c.hold_phase-cells.ensures.same_cells (λ of. subst (λ (r : Result (Unit {0}) Status). IsOfOpening r) c.in-Ok.is of))
    (c.hold_phase-cells.ensures.same_books (λ of. subst (λ (r : Result (Unit {0}) Status). IsOfOpening r) c.in-Ok.is of))
    (subst (λ (r : Result (Unit {0}) Status). OnOk r (AreStepsMade c.args.first.now c.hold_phase-cells.result.cells.items
    c.hold_phase-cells.result.books.items)) c.in-Ok.is c.hold_phase-cells.ensures.made)
    is)
    (λ x is why elsewhere. OfFirstPull
    (subst (λ (r : Result (Unit {0}) Status). OnOk r (AreNotesOfAllBoth c.args.first.now.work c.args.second.now.work c.go_on-cells.result.notes.items))
    is (both_ran g (goal.at.returns-in-Ok-clause-undone g c).After-go_on-cells))
    (subst (λ (r : Result (Unit {0}) Status). OnOk r (HaveAllEnded c.go_on-cells.result.notes.items)) is c.go_on-cells.ensures.ended)
    (subst (λ (r : Result (Unit {0}) Status). OnOk r (AreStepsMade c.args.second.now
    c.go_on-cells.result.cells.items c.go_on-cells.result.books.items)) is c.go_on-cells.ensures.made)
    (subst (λ (r : Result (Unit {0}) Status). OnOk r (ArePulled (lists_of c.args.second.now.inputs.items) c.go_on-cells.result.cells.items
    c.go_on-cells.result.books.items)) is c.go_on-cells.ensures.pulled)
    (subst (λ (l : List (Cell g.row.D.Denot)). IsFirstPullMismatch c.args.first.now.rooms.items l why) c.deref.ensures.value
    (subst (λ (l : List ℕ). IsFirstPullMismatch l c.deref.result.now why) c.deref-in-Ok.ensures.value elsewhere)))

pub returns-in-Ok-clause-ran : goal.returns-in-Ok-clause-ran
returns-in-Ok-clause-ran g c = held_before _ c.go_on-cells.result.answer _ c.compare_phases-answer.ensures.undone
    (both_ran g (goal.at.returns-in-Ok-clause-ran g c).After-go_on-cells)

pub returns-in-Ok-clause-begun : goal.returns-in-Ok-clause-begun
returns-in-Ok-clause-begun g c = λ none. inr (c.go_on-cells.ensures.begun (not_foreign _ _ c.compare_phases-answer.ensures.undone none))

pub returns-in-Err-clause-notes : goal.returns-in-Err-clause-notes
returns-in-Err-clause-notes g c = record {
  between = g.P.Passes.stops c.hold_phase-cells.new.passes;
  front = c.hold_phase-cells.result.notes.items;
  are_first = c.hold_phase-cells.ensures.notes;
  are_second = record {
    more = [];
    behind = sym (append-nil c.hold_phase-cells.result.notes.items);
    are = OfNone refl refl;
  };
}

pub returns-in-Err-clause-same_cells : goal.returns-in-Err-clause-same_cells
returns-in-Err-clause-same_cells g c = λ none. c.hold_phase-cells.ensures.same_cells
    (λ of. none (subst (λ (r : Result (Unit {0}) Status). IsOfOpening r) c.in-Err.is of))

pub returns-in-Err-clause-same_books : goal.returns-in-Err-clause-same_books
returns-in-Err-clause-same_books g c = λ none. c.hold_phase-cells.ensures.same_books
    (λ of. none (subst (λ (r : Result (Unit {0}) Status). IsOfOpening r) c.in-Err.is of))

pub returns-in-Err-clause-undone : goal.returns-in-Err-clause-undone
returns-in-Err-clause-undone g c =
    OfFirst (all_or_none c.args.first.now.work _ _ c.hold_phase-cells.result.notes.items c.hold_phase-cells.ensures.notes) (subst (λ (r : Result (Unit {0}) Status). IfErr r (IsUndone c.args.first.now c.args.cells.items c.args.books.items
    c.hold_phase-cells.result.cells.items c.hold_phase-cells.result.books.items c.hold_phase-cells.result.notes.items)) c.in-Err.is
    c.hold_phase-cells.ensures.undone)

pub go_on-cells-requires-clause-ended : goal.go_on-cells-requires-clause-ended
go_on-cells-requires-clause-ended g c κs within =
    subst (λ (r : Result (Unit {0}) Status). OnOk r (HaveAllEnded c.hold_phase-cells.result.notes.items)) c.in-Ok.is c.hold_phase-cells.ensures.ended

pub returns-in-Err-clause-begun : goal.returns-in-Err-clause-begun
returns-in-Err-clause-begun g c = λ none. inl (c.hold_phase-cells.ensures.begun
    (λ of. none (subst (λ (r : Result (Unit {0}) Status). AdmitsForeign r) c.in-Err.is of)))

use Rattle.std.proofs.Common.{◌∙◌, ◌++◌, [], List, ap, arith, length, refl, subst, sym}
use Rattle.std.proofs.lemmas.List.{append-nil}
use Rattle.collector_pool.specs.{WorkerNote}
use Rattle.run_command.specs.Runs as runs
use Rattle.run_command.specs.Sessions.{OfNone, AreNotesOfAll}
use Rattle.run_command.proofs.Continued.{groups_still, still}
use Rattle.run_command.specs.{HaveAllEnded}
use Rattle.run_command.proofs.Notes.{at_text, ended_both}
use Rattle.std.proofs.lemmas.Result.{on_ok_weaker}
use Rattle.run_command.proofs.Results.{err_weaker}
use Rattle.run_command.proofs.DrillUndone.{few_notes, where_ok}
use Rattle.run_command.proofs.drill_phases.go_on.Goals as goal

pub returns-then-is_err-clause-notes : goal.returns-then-is_err-clause-notes
returns-then-is_err-clause-notes g c = record {
  more = [];
  behind = c.reserve.ensures.items ∙ sym (append-nil c.args.notes.items);
  are = OfNone refl refl;
}

pub returns-then-is_err-clause-same_cells : goal.returns-then-is_err-clause-same_cells
returns-then-is_err-clause-same_cells g c = λ none. still c.args.cells.items

pub returns-then-is_err-clause-same_books : goal.returns-then-is_err-clause-same_books
returns-then-is_err-clause-same_books g c = λ none. groups_still c.args.books.items

pub returns-then-is_err-clause-undone : goal.returns-then-is_err-clause-undone
returns-then-is_err-clause-undone g c = record {
  more = [];
  behind = c.reserve.ensures.items ∙ sym (append-nil c.args.notes.items);
  undone = runs.OfNone refl;
}

pub join-requires : goal.join-requires
join-requires g c = record {
  room = omega (
    arith,
    where_ok c.reserve.result (sym c.is_err.ensures.value ∙ c.if-is_err.false) c.reserve.ensures.ok,
    c.reserve.ensures.len,
    c.len.ensures,
    c.len-2.ensures,
    ap length c.requires.no_readers,
    few_notes c.args.second.now.work _ _ c.hold_phase-cells.result.notes.items c.hold_phase-cells.ensures.notes,
    c.hold_phase-cells.result.notes.ok,
    c.args.second.now.work.collectors.ok,
    c.args.second.now.work.refreshers.ok,
  );
}

pub returns-clause-undone : goal.returns-clause-undone
returns-clause-undone g c = err_weaker c.hold_phase-cells.result.answer
    (λ why is. record {
      more = c.hold_phase-cells.result.notes.items;
      behind = c.join.ensures ∙ ap (λ (l : List WorkerNote). l ++ c.hold_phase-cells.result.notes.items) c.reserve.ensures.items;
      undone = is;
    })
    c.hold_phase-cells.ensures.undone

pub returns-clause-ended : goal.returns-clause-ended
returns-clause-ended g c = on_ok_weaker c.hold_phase-cells.result.answer
    (λ ended. subst HaveAllEnded
    (sym (c.join.ensures ∙ ap (λ (l : List WorkerNote). l ++ c.hold_phase-cells.result.notes.items) c.reserve.ensures.items))
    (ended_both c.args.notes.items c.hold_phase-cells.result.notes.items c.requires.ended ended))
    c.hold_phase-cells.ensures.ended

pub returns-clause-ran : goal.returns-clause-ran
returns-clause-ran g c = on_ok_weaker c.hold_phase-cells.result.answer
    (λ are. record {
      more = c.hold_phase-cells.result.notes.items;
      behind = c.join.ensures ∙ ap (λ (l : List WorkerNote). l ++ c.hold_phase-cells.result.notes.items) c.reserve.ensures.items;
      are = are;
    })
    (at_text (AreNotesOfAll c.args.second.now.work c.hold_phase-cells.result.notes.items) c.hold_phase-cells.result.answer
    c.hold_phase-cells.ensures.ran)

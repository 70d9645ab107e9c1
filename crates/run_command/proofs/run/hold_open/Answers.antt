use Rattle.std.proofs.Common.{Vec, arith, length, sym, subst}
use Rattle.std.specs.Prelude.{IfErr, OnOk}
use Rattle.std.specs.declared.alloc.Global.{Global}
use Rattle.collector_pool.specs.{WorkerNote}
use Rattle.branded_disk.specs.{branded}
use Rattle.run_command.specs.Runs.{IsUndone}
use Rattle.run_command.specs.{HaveAllEnded}
use Rattle.run_command.specs.Sessions.{AreNotes, AreNotesOfAll}
use Rattle.run_command.proofs.Continued.{inputs_of_base}
use Rattle.run_command.proofs.Told.{foreign_told, held_told, undone_told}
use Rattle.run_command.proofs.run.hold_open.Goals as goal

pub hold_phase-ended-requires-clause-inputs : goal.hold_phase-ended-requires-clause-inputs
hold_phase-ended-requires-clause-inputs g c κs within =
    inputs_of_base (length c.args.base.now.tags.items) _ c.args.base.now.groups.items c.args.opened.plant.books.items _
    c.requires.cells c.requires.inputs c.requires.good.sound (omega (arith, c.requires.books, c.args.opened.plant.books.ok))
    c.requires.defined

pub hold_phase-ended-requires-clause-looks : goal.hold_phase-ended-requires-clause-looks
hold_phase-ended-requires-clause-looks g c κs within = rw c.deref.ensures c.requires.looks

pub returns : goal.returns
returns g c old before whole was rest same =
    let given = c.args.given.now in
    let ended = c.hold_phase-ended.result in
    let end = c.hold_phase-ended.ensures in
    let closed = c.close.ensures in
    let s = c.close.result.1 in
    record {
      held = held_told (branded g.S.Dev.Disk.device g.K.Begun.before) c.args.base.now given old _ before _ _ _ _ ended _ s
          was (closed.over old whole rest) same closed.counts end.same_cells end.same_books
          (subst (λ (v : Vec WorkerNote Global). OnOk ended.answer (HaveAllEnded v.items)) (sym closed.notes) end.ended) end.made end.pulled closed.told;
      notes = subst (λ (v : Vec WorkerNote Global). AreNotes given.work (g.P.Passes.stops c.args.passes.now)
          (g.P.Passes.stops c.hold_phase-ended.new.passes) v.items) (sym closed.notes) end.notes;
      ran = λ none. subst (λ (v : Vec WorkerNote Global). AreNotesOfAll given.work v.items) (sym closed.notes)
          (end.ran (λ of. none (foreign_told c.args.base.now given s ended.answer _ closed.told of)));
      begun = λ none. end.begun (λ of. none (foreign_told c.args.base.now given s ended.answer _ closed.told of));
      undone = undone_told c.args.base.now given s ended.cells.items ended.books.items _ _ ended.answer _ closed.told
          (subst (λ (v : Vec WorkerNote Global). IfErr ended.answer (IsUndone given c.args.opened.plant.cells.items c.args.opened.plant.books.items
          ended.cells.items ended.books.items v.items)) (sym closed.notes) end.undone);
    }

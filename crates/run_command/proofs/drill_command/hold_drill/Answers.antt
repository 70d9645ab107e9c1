use Rattle.std.proofs.Common.{Vec, arith, length, subst, sym}
use Rattle.std.specs.Prelude.{IfErr, OnOk}
use Rattle.std.specs.declared.alloc.Global.{Global}
use Rattle.collector_pool.specs.{WorkerNote}
use Rattle.branded_disk.specs.{branded}
use Rattle.session_audit.specs.{HaveFirstPulls}
use Rattle.run_command.proofs.Continued.{inputs_of_base}
use Rattle.run_command.proofs.Told.{foreign_told, held_told, ran_told}
use Rattle.run_command.specs.{HaveAllEnded, AreNotesOfAllBoth, AreNotesOfBoth, IsUndoneOfBoth}
use Rattle.run_command.proofs.DrillUndone.{both_told, phases_told}
use Rattle.run_command.proofs.drill_command.hold_drill.Goals as goal

pub hold_both-ended-requires-clause-inputs : goal.hold_both-ended-requires-clause-inputs
hold_both-ended-requires-clause-inputs g c κs within =
    inputs_of_base (length c.args.base.now.tags.items) _ c.args.base.now.groups.items c.args.plant.books.items _
    c.requires.cells c.requires.inputs c.requires.good.sound (omega (arith, c.requires.books, c.args.plant.books.ok))
    c.requires.defined

pub returns : goal.returns
returns g c old before whole was rest same =
    let base = c.args.base.now in
    let first = c.args.first.now in
    let second = c.args.second.now in
    let ended = c.hold_both-ended.result in
    let end = c.hold_both-ended.ensures in
    let closed = c.close-answer.ensures in
    let s = c.close-answer.result.1 in
    rw c.drill_answer.ensures (phases_told (branded g.S.Dev.Disk.device g.K.Begun.before) base first second old _ before _ _ _
    _ s (held_told (branded g.S.Dev.Disk.device g.K.Begun.before) base second old _ before _ _ _ _ ended _ s was
    (closed.over old whole rest) same closed.counts end.same_cells end.same_books
    (subst (λ (v : Vec WorkerNote Global). OnOk ended.answer (HaveAllEnded v.items)) (sym closed.notes) end.ended) end.made end.pulled closed.told)
    (subst (λ (v : Vec WorkerNote Global). AreNotesOfBoth first.work second.work (g.P.Passes.stops c.args.passes.now)
    (g.P.Passes.stops c.hold_both-ended.new.passes) v.items) (sym closed.notes) end.notes)
    (ran_told (AreNotesOfAllBoth first.work second.work s.workers.items) base second s ended.answer _ closed.told
    (subst (λ (v : Vec WorkerNote Global). OnOk ended.answer (AreNotesOfAllBoth first.work second.work v.items)) (sym closed.notes) end.ran))
    (ran_told (HaveFirstPulls first.rooms.items ended.cells.items) base second s ended.answer _ closed.told end.apart)
    (λ none. end.begun (λ of. none (foreign_told base second s ended.answer _ closed.told of)))
    (both_told base first second s _ _ ended.cells.items ended.books.items ended.answer _ closed.told
    (subst (λ (v : Vec WorkerNote Global). IfErr ended.answer (IsUndoneOfBoth first second c.args.plant.cells.items c.args.plant.books.items
    ended.cells.items ended.books.items v.items)) (sym closed.notes) end.undone)))

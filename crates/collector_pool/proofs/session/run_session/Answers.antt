use Rattle.std.proofs.Common.{rules}
use Rattle.plant_status.proofs.Gathering.{stops_told}
use Rattle.collector_pool.specs.{SessionWorker, halts}
use Rattle.collector_pool.proofs.Sessions.{all_stopped, notes_of}
use Rattle.collector_pool.proofs.session.run_session.Goals as goal

pub work_all-requires-clause-ready : goal.work_all-requires-clause-ready
work_all-requires-clause-ready g c κs within = c.seat_all.ensures.seated.ready c.args.board.now c.requires.looks

pub returns-clause-stops : goal.returns-clause-stops
returns-clause-stops g c =
    rw (c.gather.ensures.notes, c.gather.ensures.stops, c.seat_all.ensures.stops)
    (stops_told (λ (s : SessionWorker g.row.P-One.Denot). g.P.One.Pass.stops s.pass) (λ s. s.note) (λ n. halts n.ending) c.work_all.new.seats.items _
    (all_stopped _ c.args.work.now _ _ _ (search rules) c.work_all.ensures.done))

pub returns-clause-notes : goal.returns-clause-notes
returns-clause-notes g c =
    notes_of _ c.args.work.now _ c.args.board.now _ _ _ _ c.seat_all.ensures.seated c.requires.looks (search rules)
    (search rules) c.work_all.ensures.done c.gather.ensures.notes

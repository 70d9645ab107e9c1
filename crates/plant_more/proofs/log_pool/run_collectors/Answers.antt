use Rattle.std.proofs.Common.{rules}
use Rattle.plant_status.proofs.Gathering.{stops_told}
use Rattle.plant_more.specs.{LogWorker, halts, row_lists_of}
use Rattle.plant_more.proofs.LogSeats.{all_notes, all_ready, all_stopped}
use Rattle.plant_more.proofs.log_pool.run_collectors.Goals as goal

pub collect_all-requires-clause-ready : goal.collect_all-requires-clause-ready
collect_all-requires-clause-ready g c κs within = all_ready _ _ _ c.seat_all.ensures.seated (search rules)

pub returns-clause-stops : goal.returns-clause-stops
returns-clause-stops g c =
    rw (c.gather.ensures.notes, c.gather.ensures.stops, c.seat_all.ensures.stops)
    (stops_told (λ (s : LogWorker g.row.P-One.Denot). g.P.One.Pass.stops s.pass) (λ s. s.note) (λ n. halts n.ending) c.collect_all.new.crew.items _
    (all_stopped g.row.D.Denot _ (row_lists_of c.args.collectors.now) _ _ (search rules) c.collect_all.ensures.done))

pub returns-clause-notes : goal.returns-clause-notes
returns-clause-notes g c =
    all_notes g.row.D.Denot _ c.args.collectors.now _ _ _ c.seat_all.ensures.seated (search rules)
    (search rules) c.collect_all.ensures.done c.gather.ensures.notes

use Rattle.std.proofs.Common.{◌∙◌, arith, rules}
use Rattle.collector_pool.proofs.Seats.{one_seated}
use Rattle.collector_pool.proofs.session.seat_collectors.Goals as goal

pub loop-collector-preserved : goal.loop-collector-preserved
loop-collector-preserved g c =
    let inv = c.loop-collector.invariant in
    record {
      count = omega arith;
      room = c.seat.ensures.room ∙ inv.room;
      seated = λ lookers. one_seated _ _ lookers _ _ _ (inv.seated lookers) c.seat.ensures.seated (search rules)
          (λ board looks. search rules);
      stops = c.seat.ensures.same_stops ∙ inv.stops;
    }

use Rattle.std.proofs.Common.{◌∙◌, arith, rules}
use Rattle.collector_pool.proofs.Seats.{one_seated}
use Rattle.collector_pool.proofs.session.seat_refreshers.Goals as goal

pub loop-refresher-preserved : goal.loop-refresher-preserved
loop-refresher-preserved g c =
    let inv = c.loop-refresher.invariant in
    record {
      count = omega arith;
      room = c.seat.ensures.room ∙ inv.room;
      seated = λ lookers before. one_seated _ _ lookers _ _ _ (inv.seated lookers before) c.seat.ensures.seated (search rules)
          (λ board looks. search rules);
      stops = c.seat.ensures.same_stops ∙ inv.stops;
    }

use Rattle.std.proofs.Common.{◌≡◌, ◌<◌, ◌∷◌, length, ◌∙◌, arith, rules}
use Rattle.std.specs.Vec.Iter.{into_iter_items}
use Rattle.snapshot_table.specs.{LooksAt}
use Rattle.plant_status.proofs.Gathering.{all_first, all_rest}
use Rattle.collector_pool.proofs.Seats.{one_seated}
use Rattle.collector_pool.proofs.session.seat_readers.Goals as goal

pub loop-reader-preserved : goal.loop-reader-preserved
loop-reader-preserved g c =
    let inv = c.loop-reader.invariant in
    let is : into_iter_items c.loop-reader.rest ≡ c.in-Some.looker ∷ into_iter_items c.next.new.self = c.in-Some.ensures.items in
    let few : c.loop-reader.reader < length c.args.work.now.readers.items = search rules in
    record {
      count = omega arith;
      room = c.seat.ensures.room ∙ inv.room;
      left = omega (arith, c.in-Some.ensures.len);
      looks = λ board looks. all_rest (LooksAt board) _ _ _ is (inv.looks board looks);
      seated = one_seated _ _ _ _ _ _ inv.seated c.seat.ensures.seated (search rules)
          (λ board looks. (few, all_first (LooksAt board) _ _ _ is (inv.looks board looks)));
      stops = c.seat.ensures.same_stops ∙ inv.stops;
    }

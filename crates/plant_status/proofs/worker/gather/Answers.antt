use Rattle.std.proofs.Common.{◌≡◌, ◌∷◌, ◌∙◌, sym, length, map, ap, arith}
use Rattle.std.specs.Vec.Iter.{into_iter_items}
use Rattle.plant_status.specs.{sum_from}
use Rattle.plant_status.proofs.Gathering.{one_moved}
use Rattle.plant_status.proofs.worker.gather.Goals as goal

pub loop-worker-preserved : goal.loop-worker-preserved
loop-worker-preserved g c =
    let inv = c.loop-worker.invariant in
    let is : into_iter_items c.loop-worker.rest ≡ c.in-Some.worker ∷ into_iter_items c.next.new.self = c.in-Some.ensures.items in
    record {
      notes = rw (c.push_reserved.ensures.items, c.leave-pass.ensures.note) (one_moved g.S.Worker.note _ _ _ _ _ inv.notes is);
      count = omega (arith, ap length is, c.in-Some.ensures.len);
      room = omega (arith, c.in-Some.ensures.len);
      stops = rw (c.give_back.ensures, c.leave-pass.ensures.pass)
          (sym (ap (λ l. sum_from (g.P.Passes.stops c.loop-worker.passes) (map (λ s. g.P.One.Pass.stops (g.S.Worker.pass s)) l)) is)
          ∙ inv.stops);
    }

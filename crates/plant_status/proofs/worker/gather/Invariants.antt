use Rattle.std.proofs.Common.{◌≡◌, ◌≤◌, ◌+◌, ◌++◌, map, length, vec_capacity, vec_len}
use Rattle.std.specs.Vec.Iter.{into_iter_items, into_iter_len}
use Rattle.plant_status.specs.{sum_from}
use Rattle.plant_status.proofs.worker.gather.Given as goal

abbrev pub invariant-loop-worker : goal.invariant-loop-worker
invariant-loop-worker g l = record {
  notes : l.notes.items ++ map g.S.Worker.note (into_iter_items l.rest) ≡ map g.S.Worker.note l.fn.workers.items;
  count : into_iter_len l.rest ≡ length (into_iter_items l.rest);
  room : vec_len l.notes + into_iter_len l.rest ≤ vec_capacity l.notes;
  stops : sum_from (g.P.Passes.stops l.passes) (map (λ s. g.P.One.Pass.stops (g.S.Worker.pass s)) (into_iter_items l.rest))
      ≡ sum_from (g.P.Passes.stops l.fn.passes) (map (λ s. g.P.One.Pass.stops (g.S.Worker.pass s)) l.fn.workers.items);
}

abbrev pub decreases-loop-worker : goal.decreases-loop-worker
decreases-loop-worker g l = into_iter_len l.rest

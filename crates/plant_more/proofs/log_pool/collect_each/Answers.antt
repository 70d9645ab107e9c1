use Rattle.std.proofs.Common.{sym, subst}
use Rattle.plant_more.specs.LogCrew.{IsReady}
use Rattle.plant_more.proofs.log_pool.collect_each.Goals as goal

pub for_each_mut-requires-clause-accepts : goal.for_each_mut-requires-clause-accepts
for_each_mut-requires-clause-accepts g c κs within = λ i p few is.
    let ready = subst (IsReady g.O.Pass.stops _) (sym is) (c.requires.ready i p.now few) in
    (c.requires.rows, ready)

pub returns : goal.returns
returns g c = λ i d few.
    let one = (c.for_each_mut.ensures i d few).1 in
    rw (← one.argument_is, ← one.left) one.call

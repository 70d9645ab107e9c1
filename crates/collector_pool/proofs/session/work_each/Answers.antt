use Rattle.std.proofs.Common.{arith, sym, subst}
use Rattle.collector_pool.specs.{IsReady}
use Rattle.collector_pool.proofs.Leaving.{leaves_nothing}
use Rattle.collector_pool.proofs.session.work_each.Goals as goal

pub for_each_mut-requires-clause-accepts : goal.for_each_mut-requires-clause-accepts
for_each_mut-requires-clause-accepts g c κs within = λ i p few is.
    let ready = subst (IsReady g.O.Pass.stops c.args.work.now c.args.board.now) (sym is) (c.requires.ready i p.now few) in (
      (c.requires.work, c.requires.board, ready),
      (
        record { owned = c.type_bounds.send-D.owned; leaving = λ k x w. leaves_nothing _ x w },
        record { owned = c.type_bounds.send-O.owned; leaving = λ k x w. leaves_nothing _ x w },
        record { shared = c.type_bounds.sync-G.shared },
        record { shared = c.type_bounds.sync-R.shared },
      ),
    )

pub returns : goal.returns
returns g c = grind arith

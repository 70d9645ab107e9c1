use Rattle.std.proofs.Common.{arith}
use Rattle.std.proofs.lemmas.Int.{to_z-of_z}
use Rattle.interp_read.proofs.ReadsNextTo.{value_back}
use Rattle.weighted_total.proofs.Walking.{taken_none, spread_more, spread_all}
use Rattle.weighted_total.proofs.inside.extremes_inside.Goals as goal

pub loop-run-init : goal.loop-run-init
loop-run-init c = grind (arith, taken_none, value_back)

pub loop-run-preserved : goal.loop-run-preserved
loop-run-preserved c = grind (arith, to_z-of_z, spread_more)

pub returns : goal.returns
returns c =
    let all = spread_all c.args.start _ _ _ _ c.loop-run.invariant c.in_default.ensures.none in
    record { low = all.0; high = all.1 }

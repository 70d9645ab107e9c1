use Rattle.std.proofs.Common.{arith}
use Rattle.calc_refresh.proofs.Marking.{furthest_more}
use Rattle.calc_refresh.proofs.mark.furthest.Goals as goal

pub loop-mark-preserved : goal.loop-mark-preserved
loop-mark-preserved c = grind (arith, furthest_more)

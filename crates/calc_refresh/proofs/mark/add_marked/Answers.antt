use Rattle.std.proofs.Common.{arith}
use Rattle.calc_refresh.proofs.Marking.{furthest_more, marked_now, unmarked_now}
use Rattle.calc_refresh.proofs.Passing.{passing_next, passing_same}
use Rattle.calc_refresh.proofs.mark.add_marked.Goals as goal
use Rattle.calc_refresh.proofs.mark.add_marked.Goals.{then-k-reach, else-k-reach}

pub loop-k-preserved : goal.loop-k-preserved
loop-k-preserved c = grind (arith, furthest_more, marked_now, passing_next, unmarked_now, passing_same)

use Rattle.std.proofs.Common.{arith}
use Rattle.calc_refresh.proofs.Passing.{passing_next, passing_same}
use Rattle.group_book.proofs.unsaved.add_unsaved.Goals as goal
use Rattle.group_book.proofs.unsaved.add_unsaved.Goals.{then-is_unsaved+in_ok-push, else-is_unsaved}

pub loop-k-preserved : goal.loop-k-preserved
loop-k-preserved c = grind (arith, passing_next, passing_same)

use Rattle.store_commands.proofs.Changing.{AreChangesTo}
use Rattle.store_commands.proofs.frame_row.changes.Given as goal

abbrev pub invariant-loop-k : goal.invariant-loop-k
invariant-loop-k l = AreChangesTo l.old l.new l.k l.changes.items

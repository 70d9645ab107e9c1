use Rattle.late_insert.proofs.Filling.{AreStored}
use Rattle.late_insert.proofs.page.store_run.Given as goal

abbrev pub invariant-loop-i : goal.invariant-loop-i
invariant-loop-i l = AreStored l.run l.i l.frame.times l.frame.values l.frame.late

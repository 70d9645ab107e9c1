use Rattle.std.proofs.Common.{◌≤◌, take}
use Rattle.trend_model.specs.{IsRising}
use Rattle.late_insert.proofs.page.run_len.Given as goal

abbrev pub invariant-loop-i : goal.invariant-loop-i
invariant-loop-i l = record { rises : IsRising (take l.i l.recs); upto : l.i ≤ l.most }

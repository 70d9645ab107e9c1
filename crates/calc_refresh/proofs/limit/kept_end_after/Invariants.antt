use Rattle.std.proofs.Common.{◌≡◌, List, ◌++◌, take}
use Rattle.trend_num.specs.{Rec}
use Rattle.sheet_law.specs.{kept_end}
use Rattle.calc_refresh.proofs.limit.kept_end_after.Given as goal

abbrev pub invariant-loop-rec : goal.invariant-loop-rec
invariant-loop-rec l = (rs : List Rec) → l.initial.end ≡ kept_end rs → l.end ≡ kept_end (rs ++ take l.rec-index l.recs)

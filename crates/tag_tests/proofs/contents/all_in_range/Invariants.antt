use Rattle.std.proofs.Common.{ℕ, ◌<◌, get_or}
use Rattle.trend_num.specs.{Rec, InRange}
use Rattle.tag_tests.proofs.contents.all_in_range.Given as goal

abbrev pub invariant-loop-i : goal.invariant-loop-i
invariant-loop-i l = (k : ℕ) (d : Rec) → k < l.i → InRange (get_or l.recs k d).point

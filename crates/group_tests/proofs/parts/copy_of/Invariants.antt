use Rattle.std.proofs.Common.{All}
use Rattle.trend_num.specs.{InRange}
use Rattle.group_tests.proofs.parts.copy_of.Given as goal

abbrev pub invariant-loop-rec : goal.invariant-loop-rec
invariant-loop-rec g l = All (λ r. InRange r.point) l.copy.items

use Rattle.std.proofs.Common.{All}
use Rattle.trend_num.specs.{InRange}
use Rattle.group_tests.proofs.sheets.records_of.Given as goal

abbrev pub invariant-loop-word : goal.invariant-loop-word
invariant-loop-word g l = All (λ r. InRange r.point) l.recs.items

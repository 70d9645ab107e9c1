use Rattle.std.proofs.Common.{All}
use Rattle.calc_refresh.specs.{lists_of, IsCopy}
use Rattle.group_tests.proofs.sheets.deltas_of.Given as goal

abbrev pub invariant-loop-part : goal.invariant-loop-part
invariant-loop-part g l = All IsCopy (lists_of l.deltas.items)

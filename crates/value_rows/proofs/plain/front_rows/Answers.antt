use Rattle.std.proofs.Common.{arith}
use Rattle.value_rows.proofs.Mark.{rows_unmarked}
use Rattle.value_rows.proofs.plain.front_rows.Goals as goal

pub returns-clause-reads : goal.returns-clause-reads
returns-clause-reads c = grind (arith, rows_unmarked)

use Rattle.std.proofs.Common.{arith}
use Rattle.value_rows.proofs.Mark.{marked_part_records, marked_records, unmarked_part_records, unmarked_records}
use Rattle.value_rows.proofs.narrow.narrow.Goals as goal

pub returns-then-has_mark-clause-agree : goal.returns-then-has_mark-clause-agree
returns-then-has_mark-clause-agree c = grind (arith, marked_records, marked_part_records)

pub returns-then-has_mark-clause-narrow : goal.returns-then-has_mark-clause-narrow
returns-then-has_mark-clause-narrow c = grind (arith, marked_part_records)

pub returns-else-has_mark-clause-agree : goal.returns-else-has_mark-clause-agree
returns-else-has_mark-clause-agree c = grind (arith, unmarked_records, unmarked_part_records)

pub returns-else-has_mark-clause-narrow : goal.returns-else-has_mark-clause-narrow
returns-else-has_mark-clause-narrow c = grind (arith, unmarked_part_records)

use Rattle.std.proofs.Common.{sym, arith}
use Rattle.plant_more.proofs.LogRows.{row_past, row_there}
use Rattle.plant_more.proofs.log_finding.row_at.Goals as goal

pub returns-then-place-rows-clause-row : goal.returns-then-place-rows-clause-row
returns-then-place-rows-clause-row c = sym (row_past c.args.collector 1 c.args.place c.args.rows.now (omega arith))

pub returns-clause-row : goal.returns-clause-row
returns-clause-row c = sym (row_there c.args.collector 1 c.args.place c.args.rows.now _ (omega arith))

use Rattle.std.proofs.Common.{arith}
use Rattle.plant_files.proofs.Refusals.{rows_refused}
use Rattle.plant_files.proofs.row_files.rows_in.Goals as goal

pub returns-in-Ok-clause-refused : goal.returns-in-Ok-clause-refused
returns-in-Ok-clause-refused g c = grind (arith, rows_refused)

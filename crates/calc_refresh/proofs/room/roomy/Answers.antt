use Rattle.std.proofs.Common.{arith}
use Rattle.calc_refresh.proofs.Limits.{length_listed}
use Rattle.calc_refresh.proofs.room.roomy.Goals as goal

pub returns-in-Ok-from_records-clause-spare : goal.returns-in-Ok-from_records-clause-spare
returns-in-Ok-from_records-clause-spare c = grind (arith, length_listed)

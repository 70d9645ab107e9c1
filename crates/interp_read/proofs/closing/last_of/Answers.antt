use Rattle.std.proofs.Common.{arith}
use Rattle.late_insert.proofs.Ranges.{last_take}
use Rattle.interp_read.proofs.closing.last_of.Goals as goal

pub returns-else-n-eq0-clause-value : goal.returns-else-n-eq0-clause-value
returns-else-n-eq0-clause-value c = grind (arith, last_take)

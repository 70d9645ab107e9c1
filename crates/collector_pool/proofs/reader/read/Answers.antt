use Rattle.std.proofs.Common.{arith}
use Rattle.collector_pool.proofs.reader.read.Goals as goal

pub returns-clause-note : goal.returns-clause-note
returns-clause-note g c = grind arith

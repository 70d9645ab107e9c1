use Rattle.std.proofs.Common.{arith}
use Rattle.plant_status.proofs.Gathering.{whole_again}
use Rattle.collector_pool.proofs.session.work_all.Goals as goal

pub returns-clause-done : goal.returns-clause-done
returns-clause-done g c = grind (arith, whole_again)

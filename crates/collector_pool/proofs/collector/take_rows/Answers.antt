use Rattle.std.proofs.Common.{arith}
use Rattle.collector_pool.proofs.Endings.{commit_stops_none, ends_collector}
use Rattle.collector_pool.proofs.collector.take_rows.Goals as goal
use Rattle.collector_pool.proofs.collector.take_rows.Goals.{then-is_due+in_default-commit_tags, else-is_due}

pub returns-in-Err-commit_tags-clause-ending : goal.returns-in-Err-commit_tags-clause-ending
returns-in-Err-commit_tags-clause-ending g c = grind (arith, ends_collector)

pub returns-in-Err-commit_tags-clause-stops : goal.returns-in-Err-commit_tags-clause-stops
returns-in-Err-commit_tags-clause-stops g c = grind (arith, commit_stops_none)

pub loop-i-preserved : goal.loop-i-preserved
loop-i-preserved g c = grind arith

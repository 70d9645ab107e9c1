use Rattle.std.proofs.Common.{arith}
use Rattle.archive_file.proofs.Logs.{added_all}
use Rattle.archive_file.proofs.log.read_records.Goals as goal

pub returns-clause-ok : goal.returns-clause-ok
returns-clause-ok g c = grind (arith, added_all)

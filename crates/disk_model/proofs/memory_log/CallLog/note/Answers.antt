use Rattle.std.proofs.Common.{arith}
use Rattle.disk_model.proofs.Logs.{calls_after-push}
use Rattle.disk_model.proofs.memory_log.CallLog.note.Goals as goal

pub returns-clause-told : goal.returns-clause-told
returns-clause-told c = grind (arith, calls_after-push)

use Rattle.std.proofs.Common.{arith}
use Rattle.event_queue.proofs.Filled.{absent, whole}
use Rattle.event_queue.proofs.law.an_append_is_whole_or_absent.Goals as goal

pub returns : goal.returns
returns c = grind (arith, whole, absent)

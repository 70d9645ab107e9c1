use Rattle.std.proofs.Common.{arith}
use Rattle.event_queue.proofs.Found.{scanned_overtaken, scanned_filled}
use Rattle.event_queue.proofs.law.a_scan_tells_which_it_is.Goals as goal

pub returns-clause-overtaken : goal.returns-clause-overtaken
returns-clause-overtaken c = grind (arith, scanned_overtaken)

pub returns-clause-filled : goal.returns-clause-filled
returns-clause-filled c = grind (arith, scanned_filled)

use Rattle.std.proofs.Common.{rules}
use Rattle.event_queue.proofs.Overtaken.{overtaken_none, overtaken_closing}
use Rattle.event_queue.proofs.law.a_restart_leaves_an_overtaken_lane.Goals as goal

pub returns : goal.returns
returns c = search (rules, overtaken_closing, overtaken_none)

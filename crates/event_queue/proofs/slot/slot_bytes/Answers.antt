use Rattle.std.proofs.Common.{rules, arith}
use Rattle.std.proofs.lemmas.List.{get_or_default}
use Rattle.event_queue.proofs.Batches.{written_none, written_more, written_all}
use Rattle.event_queue.proofs.slot.slot_bytes.Goals as goal

pub loop-p-init : goal.loop-p-init
loop-p-init c = grind (arith, written_none)

pub loop-p-preserved : goal.loop-p-preserved
loop-p-preserved c = search (rules, written_more, get_or_default)

pub put_point-requires : goal.put_point-requires
put_point-requires c = (omega arith, omega (arith, c.loop-p.invariant.long))

pub returns : goal.returns
returns c = grind (arith, written_all)

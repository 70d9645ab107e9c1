use Rattle.event_queue.proofs.Batches.{IsWritten}
use Rattle.event_queue.proofs.slot.slot_bytes.Given as goal

abbrev pub invariant-loop-p : goal.invariant-loop-p
invariant-loop-p l = IsWritten l.first l.points l.p-index l.bytes.items

use Rattle.event_queue.proofs.Pieces.{IsTakenTo}
use Rattle.event_queue.proofs.reader.Scanned.take_piece.Given as goal

abbrev pub invariant-loop-i : goal.invariant-loop-i
invariant-loop-i l = IsTakenTo l.fn.self.lane.slots l.taken l.gates l.from l.piece l.fn.self l.i l.self

use Rattle.std.proofs.Common.{◌≡◌, ◌*◌, ◌++◌, drop}
use Rattle.event_queue.specs.{slot_points}
use Rattle.event_queue.proofs.slot.add_points.Given as goal

abbrev pub invariant-loop-i : goal.invariant-loop-i
invariant-loop-i l = record {
  rest : l.rest ≡ drop (16 * l._i) l.bytes;
  points : l.points.items ≡ l.fn.points.items ++ slot_points l._i l.bytes;
}

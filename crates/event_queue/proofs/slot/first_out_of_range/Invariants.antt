use Rattle.std.proofs.Common.{◌≡◌, ◌*◌, drop}
use Rattle.std.specs.List.{All}
use Rattle.trend_num.specs.{InRange}
use Rattle.event_queue.specs.{slot_points}
use Rattle.event_queue.proofs.slot.first_out_of_range.Given as goal

abbrev pub invariant-loop-i : goal.invariant-loop-i
invariant-loop-i l = record {
  rest : l.rest ≡ drop (16 * l.i) l.bytes;
  before : All InRange (slot_points l.i l.bytes);
}

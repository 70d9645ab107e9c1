use Rattle.std.proofs.Common.{arith}
use Rattle.event_queue.proofs.Rooms.{reaches_lane, room_anew}
use Rattle.event_queue.proofs.lane.Lane.restart.Goals as goal

pub close_gates-requires-clause-room : goal.close_gates-requires-clause-room
close_gates-requires-clause-room g c = reaches_lane _ _ _ _ c.requires.room (omega arith)

pub returns-clause-room_left : goal.returns-clause-room_left
returns-clause-room_left g c = grind (arith, room_anew)

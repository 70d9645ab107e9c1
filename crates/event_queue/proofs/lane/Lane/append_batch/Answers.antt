use Rattle.std.proofs.Common.{arith}
use Rattle.event_queue.proofs.Rooms.{reaches_lane, room_behind}
use Rattle.event_queue.proofs.lane.Lane.append_batch.Goals as goal

pub write_guarded-requires-clause-room : goal.write_guarded-requires-clause-room
write_guarded-requires-clause-room g c = grind (arith, reaches_lane)

pub returns-clause-room_left : goal.returns-clause-room_left
returns-clause-room_left g c =
    room_behind _ _ c.args.self.now.slots c.args.self.now.used _ _ _ (omega arith) c.requires.room
    c.slot_place-at.ensures
    (omega (arith, c.from-gate.ensures)) c.in-Ok.ensures.any_moment

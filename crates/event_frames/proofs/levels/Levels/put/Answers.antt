use Rattle.std.proofs.Common.{◌≡◌, length, ap, arith}
use Rattle.std.specs.Prelude.{vec_capacity}
use Rattle.event_frames.specs.{LevelsState}
use Rattle.event_frames.proofs.Blocks.{levels_pushed}
use Rattle.event_frames.proofs.Putting.{put_at-within, put_pushed}
use Rattle.event_frames.proofs.levels.Levels.put.Goals as goal
use Rattle.event_frames.proofs.levels.Levels.put.Goals.{then-k-len, else-k-len}

pub invariant_of-self : goal.invariant_of-self
invariant_of-self c =
    let inside = c.self.inside in
    let view : length inside.truths.items ≡ length c.args.self.now.truths =
    ap (λ (s : LevelsState). length s.truths) c.self.view_is in
    let room : inside.room ≡ c.args.self.now.room = ap (λ (s : LevelsState). s.room) c.self.view_is in
    levels_pushed inside.truths.items inside.blocks.items inside.groups.items c.push_reserved.new.self.items inside.room
    (vec_capacity inside.truths) (vec_capacity c.push_reserved.new.self) c.self.invariant
    (omega (arith, view, room, c.requires.room)) c.push_reserved.ensures.items c.push_reserved.ensures.capacity

pub returns-clause-truths : goal.returns-clause-truths
returns-clause-truths c = grind (arith, put_pushed, put_at-within)

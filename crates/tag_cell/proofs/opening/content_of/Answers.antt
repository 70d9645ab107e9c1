use Rattle.std.proofs.Common.{◌≡◌, ℕ, ◌+◌, ◌≤◌, List, Result, Ok, Err, IfOk, length, arith, ap}
use Rattle.trend_num.specs.{Rec, WantOfMemory}
use Rattle.trend_model.specs.{ContentState, listed}
use Rattle.tag_cell.proofs.Takes.{length-listed}
use Rattle.tag_cell.proofs.opening.content_of.Goals as goal

-- what is made has the room that was asked for
room_of : (r : Result ContentState WantOfMemory) (recs : List Rec) (n : ℕ) → IfOk r (λ x. x.records ≡ listed recs)
    → IfOk r (λ x. x.spare + length x.records ≡ length recs + n) → IfOk r (λ x. n ≤ x.spare)
room_of (Ok x) recs n is room = omega (arith, room, ap length is, length-listed recs)
room_of (Err e) recs n is room = tt

pub returns-clause-room : goal.returns-clause-room
returns-clause-room c = room_of c.from_records.result c.recs-recs.result.now _ c.from_records.ensures.records c.from_records.ensures.room

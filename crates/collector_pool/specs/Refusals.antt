-- How a worker ends after a refused call.
use Rattle.std.specs.Prelude.{ℕ}
use Rattle.tag_cell.specs.{CommitNo, TakeNo}
use Rattle.tag_cell.specs.declared.entry.CommitNo.TheVariants as commit
use Rattle.tag_cell.specs.declared.entry.TakeNo.TheVariants as take
use Rattle.collector_pool.specs.declared.group_turns.TurnNo.{TurnNo}
use Rattle.collector_pool.specs.declared.group_turns.TurnNo.TheVariants as turn
use Rattle.collector_pool.specs.declared.note.CellNo.{CellNo}
use Rattle.collector_pool.specs.declared.note.CellNo.TheVariants as cell
use Rattle.collector_pool.specs.declared.note.Ending.{Ending}
use Rattle.collector_pool.specs.declared.note.Ending.TheVariants.{Tag, Group, WantOfMemory}

-- the reason that a collector notes for a refused take
abbrev pub refusal_of_take : TakeNo → CellNo
refusal_of_take (take.Full records) = cell.Full records
refusal_of_take (take.RoomFull room) = cell.RoomFull room
refusal_of_take take.Broken = cell.Broken

-- how a collector ends after a refused commit of a tag
abbrev pub ending_of_commit : ℕ → CommitNo → Ending
ending_of_commit tag commit.Broken = Tag tag cell.Broken
ending_of_commit tag commit.DeviceFault = Tag tag cell.DeviceFault
ending_of_commit tag commit.WantOfMemory = WantOfMemory

-- how a worker ends after a refused call of a group
abbrev pub ending_of_turn : ℕ → TurnNo → Ending
ending_of_turn group turn.WantOfMemory = WantOfMemory
ending_of_turn group why = Group group why

use Rattle.std.proofs.Common.{arith}
use Rattle.event_frames.proofs.Changing.{row_len, row_more}
use Rattle.event_frames.proofs.frames.put_all.Goals as goal

pub put-requires-clause-window : goal.put-requires-clause-window
put-requires-clause-window c = grind (arith, row_len)

pub put-requires-clause-room : goal.put-requires-clause-room
put-requires-clause-room c = grind (arith, row_len)

pub loop-k-preserved : goal.loop-k-preserved
loop-k-preserved c = grind (arith, row_more)

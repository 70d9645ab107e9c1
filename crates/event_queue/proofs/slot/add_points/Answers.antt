use Rattle.std.proofs.Common.{arith, append_assoc}
use Rattle.event_queue.proofs.Batches.{points_in_more, points_behind}
use Rattle.event_queue.proofs.slot.add_points.Goals as goal

pub loop-i-preserved : goal.loop-i-preserved
loop-i-preserved c = grind (arith, points_behind, append_assoc, points_in_more)

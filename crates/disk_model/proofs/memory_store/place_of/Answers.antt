use Rattle.std.proofs.Common.{arith}
use Rattle.disk_model.proofs.Places.{none_more}
use Rattle.disk_model.proofs.memory_store.place_of.Goals as goal

pub loop-place-preserved : goal.loop-place-preserved
loop-place-preserved c = grind (arith, none_more)

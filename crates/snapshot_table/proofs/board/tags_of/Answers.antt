use Rattle.std.proofs.Common.{arith, length-append}
use Rattle.snapshot_table.proofs.Places.{new_posters-push}
use Rattle.snapshot_table.proofs.board.tags_of.Goals as goal

pub loop-tag-preserved : goal.loop-tag-preserved
loop-tag-preserved c = grind (arith, length-append, new_posters-push)

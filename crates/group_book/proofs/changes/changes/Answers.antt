use Rattle.std.proofs.Common.{arith}
use Rattle.group_book.proofs.Listing.{list_all_cells, list_none}
use Rattle.group_book.proofs.changes.changes.Goals as goal

pub loop-calc-init : goal.loop-calc-init
loop-calc-init c = grind (arith, list_none)

pub returns : goal.returns
returns c = grind (arith, list_all_cells)

use Rattle.std.proofs.Common.{arith}
use Rattle.group_layout.proofs.SavedRows.{vector-with_row}
use Rattle.group_layout.proofs.saved.put_row.Goals as goal

pub returns-then-k-len : goal.returns-then-k-len
returns-then-k-len c = grind (arith, vector-with_row)

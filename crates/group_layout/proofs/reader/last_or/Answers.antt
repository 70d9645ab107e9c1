use Rattle.std.proofs.Common.{arith}
use Rattle.group_layout.proofs.Walks.{last_is}
use Rattle.group_layout.proofs.reader.last_or.Goals as goal

pub returns-in-len1-up : goal.returns-in-len1-up
returns-in-len1-up c = grind (arith, last_is)

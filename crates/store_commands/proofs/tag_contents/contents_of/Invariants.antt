use Rattle.std.proofs.Common.{take}
use Rattle.store_commands.specs.{AreContentsOf}
use Rattle.store_commands.proofs.tag_contents.contents_of.Given as goal

abbrev pub invariant-loop-core : goal.invariant-loop-core
invariant-loop-core l = AreContentsOf (take l.core-index l.cores) l.contents.items

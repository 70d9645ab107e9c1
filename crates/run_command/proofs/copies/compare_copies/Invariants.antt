use Rattle.std.proofs.Common.{◌<◌, ℕ, get_or}
use Rattle.tag_base.specs.{GroupDef}
use Rattle.group_book.specs.{GroupHistory}
use Rattle.run_command.specs.{AreCopied}
use Rattle.run_command.proofs.copies.compare_copies.Given as goal

abbrev pub invariant-loop-group : goal.invariant-loop-group
invariant-loop-group l =
    (k : ℕ) (d : GroupDef) (g : GroupHistory) → k < l.group
    → AreCopied l.session (get_or l.base.groups.items k d) (get_or l.session.groups.items k g)

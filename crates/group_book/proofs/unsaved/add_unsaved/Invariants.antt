use Rattle.std.proofs.Common.{◌≡◌}
use Rattle.std.specs.List.{filter, range_with_len}
use Rattle.group_book.specs.{is_unsaved}
use Rattle.group_book.proofs.unsaved.add_unsaved.Given as goal

abbrev pub invariant-loop-k : goal.invariant-loop-k
invariant-loop-k l = l.listed.items ≡ filter (is_unsaved l.flags) (range_with_len 0 l.k)

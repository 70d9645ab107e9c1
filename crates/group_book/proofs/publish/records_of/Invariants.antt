use Rattle.std.proofs.Common.{◌≡◌}
use Rattle.calc_refresh.specs.{lists_of}
use Rattle.group_book.specs.{pulled_records}
use Rattle.group_book.proofs.publish.records_of.Given as goal

abbrev pub invariant-loop-one : goal.invariant-loop-one
invariant-loop-one l = lists_of l.lists.items ≡ pulled_records l.yielded

use Rattle.std.proofs.Common.{◌≡◌, ◌-◌, ◌≤◌, length}
use Rattle.std.specs.List.{filter, range_with_len}
use Rattle.group_book.specs.{is_unsaved}
use Rattle.group_book.proofs.unsaved.unsaved_windows.Given as goal

abbrev pub invariant-loop-from : goal.invariant-loop-from
invariant-loop-from l = record {
  within : l.from ≤ length l.flags;
  listed : l.listed.items ≡ filter (is_unsaved l.flags) (range_with_len 0 l.from);
}

abbrev pub decreases-loop-from : goal.decreases-loop-from
decreases-loop-from l = length l.flags - l.from

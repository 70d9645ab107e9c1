use Rattle.std.proofs.Common.{◌≡◌, ◌-◌, ◌≤◌, length, take, vec_capacity}
use Rattle.std.specs.List.{filter, range_with_len}
use Rattle.calc_refresh.specs.{furthest, is_marked}
use Rattle.calc_refresh.proofs.mark.list_marked.Given as goal

abbrev pub invariant-loop-from : goal.invariant-loop-from
invariant-loop-from l = record {
  within : l.from ≤ length l.marks;
  reach : l.reach ≡ furthest (take l.from l.marks);
  listed : l.listed.items ≡ filter (is_marked l.marks) (range_with_len 0 l.from);
  room : length l.marks ≤ vec_capacity l.listed;
}

abbrev pub decreases-loop-from : goal.decreases-loop-from
decreases-loop-from l = length l.marks - l.from

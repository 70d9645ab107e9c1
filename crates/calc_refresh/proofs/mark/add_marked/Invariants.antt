use Rattle.std.proofs.Common.{◌≡◌, ◌+◌, ◌-◌, ◌≤◌, take, vec_capacity, vec_len}
use Rattle.std.specs.List.{filter, range_with_len}
use Rattle.calc_refresh.specs.{furthest, is_marked}
use Rattle.calc_refresh.proofs.mark.add_marked.Given as goal

abbrev pub invariant-loop-k : goal.invariant-loop-k
invariant-loop-k l = record {
  reach : l.reach ≡ furthest (take l.k l.marks);
  listed : l.listed.items ≡ filter (is_marked l.marks) (range_with_len 0 l.k);
  room : vec_len l.listed + (l.to - l.k) ≤ vec_capacity l.listed;
  capacity : vec_capacity l.listed ≡ vec_capacity l.initial.listed;
}

use Rattle.std.proofs.Common.{◌≡◌, ◌≤◌, ◌+◌, length, vec_capacity, vec_len}
use Rattle.std.specs.Vec.Iter.{into_iter_items, into_iter_len}
use Rattle.run_command.proofs.phase.unlock_all.Given as goal

abbrev pub invariant-loop-lock : goal.invariant-loop-lock
invariant-loop-lock g l = record {
  count : into_iter_len l.rest ≡ length (into_iter_items l.rest);
  all : vec_len l.items + into_iter_len l.rest ≡ vec_len l.fn.locks;
  room : vec_len l.items + into_iter_len l.rest ≤ vec_capacity l.items;
}

abbrev pub decreases-loop-lock : goal.decreases-loop-lock
decreases-loop-lock g l = into_iter_len l.rest

use Rattle.std.proofs.Common.{◌≡◌, ◌≤◌, ◌+◌, length, vec_capacity, vec_len}
use Rattle.std.specs.Vec.Iter.{into_iter_items, into_iter_len}
use Rattle.run_command.proofs.phase.lock_all.Given as goal

abbrev pub invariant-loop-item : goal.invariant-loop-item
invariant-loop-item g l = record {
  count : into_iter_len l.rest ≡ length (into_iter_items l.rest);
  all : vec_len l.locks + into_iter_len l.rest ≡ vec_len l.fn.items;
  room : vec_len l.locks + into_iter_len l.rest ≤ vec_capacity l.locks;
}

abbrev pub decreases-loop-item : goal.decreases-loop-item
decreases-loop-item g l = into_iter_len l.rest

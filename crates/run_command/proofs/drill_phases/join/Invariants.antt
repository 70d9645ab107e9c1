use Rattle.std.proofs.Common.{◌≡◌, ◌≤◌, ◌+◌, ◌++◌, length, vec_capacity, vec_len}
use Rattle.std.specs.Vec.Iter.{into_iter_items, into_iter_len}
use Rattle.run_command.proofs.drill_phases.join.Given as goal

abbrev pub invariant-loop-note : goal.invariant-loop-note
invariant-loop-note l = record {
  notes : l.notes.items ++ into_iter_items l.rest ≡ l.initial.notes.items ++ l.fn.more.items;
  count : into_iter_len l.rest ≡ length (into_iter_items l.rest);
  room : vec_len l.notes + into_iter_len l.rest ≤ vec_capacity l.notes;
}

abbrev pub decreases-loop-note : goal.decreases-loop-note
decreases-loop-note l = into_iter_len l.rest

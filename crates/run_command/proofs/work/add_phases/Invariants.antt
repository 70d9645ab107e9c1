use Rattle.std.proofs.Common.{◌≡◌, ℕ, ◌+◌, ◌<◌, ◌≤◌, ◌^◌, length, slice_index}
use Rattle.run_command.proofs.work.add_phases.Given as goal

abbrev pub invariant-loop-i : goal.invariant-loop-i
invariant-loop-i l = record {
  as_many : length l.turns ≡ length l.initial.turns;
  added : (i : ℕ) → i < l.i → slice_index l.turns i ≡ l.phases + slice_index l.initial.turns i;
  few : (i : ℕ) → i < l.i → slice_index l.turns i + 1 < 2 ^ 32;
  rest : (i : ℕ) → l.i ≤ i → slice_index l.turns i ≡ slice_index l.initial.turns i;
}

use Rattle.std.proofs.Common.{◌≢◌, ℕ, ◌≤◌, ◌<◌, get_or}
use Rattle.disk_model.specs.{open_byte}
use Rattle.event_queue.proofs.reader.used_of.Given as goal

abbrev pub invariant-loop-k : goal.invariant-loop-k
invariant-loop-k l = record {
  bound : l.used ≤ l.k;
  none_behind : (k : ℕ) → l.used ≤ k → k < l.k → get_or l.gates k 0 ≢ open_byte;
}

use Rattle.std.proofs.Common.{ℕ, ◌<◌, get_or}
use Rattle.std.specs.Prelude.{◌≢◌}
use Rattle.collector_pool.specs.declared.note.Ending.TheVariants.{WantOfMemory}
use Rattle.collector_pool.specs.{WorkerNote}
use Rattle.run_command.proofs.settle.any_wanted.Given as goal

abbrev pub invariant-loop-place : goal.invariant-loop-place
invariant-loop-place l = (i : ℕ) (d : WorkerNote) → i < l.place → (get_or l.notes i d).ending ≢ WantOfMemory

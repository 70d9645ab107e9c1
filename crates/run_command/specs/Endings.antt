-- How a session is refused if not all of its workers ended by themselves.
use Rattle.std.specs.Prelude.{◌≡◌, ◌≢◌, ℕ, ◌<◌, List, All, Any, length}
use Rattle.std.specs.List.{AllWithin, HoldsAt}
use Rattle.plant_status.specs.declared.status.Status.{Status}
use Rattle.plant_status.specs.declared.status.Status.TheVariants as status
use Rattle.collector_pool.specs.declared.note.Ending.TheVariants.{Halted, WantOfMemory}
use Rattle.collector_pool.specs.{WorkerNote}

-- the status names the first worker that its pass stopped, or reports that a worker found no memory
abbrev pub IsStop : List WorkerNote → Status → Type 0
IsStop notes (status.Halted worker) = (place : ℕ) × (place < length notes)
    × HoldsAt (λ n. (n.worker ≡ worker) × (n.ending ≡ Halted)) notes place × AllWithin (λ n. n.ending ≢ Halted) notes 0 place
IsStop notes status.WantOfMemory = Any (λ n. n.ending ≡ WantOfMemory) notes
IsStop notes other = ⊥

-- no pass stopped a worker, and each found memory
pub record HaveAllEnded (notes : List WorkerNote) : Type 0 where
  pub none_halted : All (λ n. n.ending ≢ Halted) notes
  pub all_found : All (λ n. n.ending ≢ WantOfMemory) notes

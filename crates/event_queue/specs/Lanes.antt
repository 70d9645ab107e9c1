-- What a lane holds for a summary that counts the first `taken` events: the points of its open lane slots that are not
-- stale. A lane keeps the layout in two cases. Either all its open slots are stale; or the open slots are the first
-- ones, and their raw values are numbered from `taken` on without a gap.
use Rattle.std.specs.Prelude.{◌≡◌, ◌⊎◌, ◌==◌, ℕ, zero, suc, ◌+◌, ◌<◌, ◌≤◌, nat_le, List, [], ◌++◌, length, slice_index, if◌then◌else◌}
use Rattle.std.specs.List.{All}
use Rattle.trend_num.specs.{Point, InRange}
use Rattle.disk_model.specs.{open_byte, IsOpen}
use Rattle.event_queue.specs.Slots.{Batch, gate_of, batch_at}

-- the summary counts all raw values of the batch
abbrev pub IsStale : ℕ → Batch → Type 0
IsStale taken b = b.first + b.count ≤ taken

-- the points of a batch that the summary does not count: all, or none
abbrev pub points_beyond : ℕ → Batch → List Point
points_beyond taken b = if nat_le (b.first + b.count) taken then [] else b.points

-- what slot k holds beyond the summary; nothing if its gate is closed
abbrev pub slot_points_of : ℕ → List ℕ → ℕ → ℕ → List Point
slot_points_of slots bytes taken k =
    if slice_index bytes (gate_of k) == open_byte then points_beyond taken (batch_at slots bytes k) else []

-- what the first n slots hold beyond the summary, in order
abbrev pub points_before : ℕ → List ℕ → ℕ → ℕ → List Point
points_before slots bytes taken zero = []
points_before slots bytes taken (suc n) = points_before slots bytes taken n ++ slot_points_of slots bytes taken n

-- what the whole lane holds beyond the summary
abbrev pub lane_points : ℕ → List ℕ → ℕ → List Point
lane_points slots bytes taken = points_before slots bytes taken slots

-- the batch of slot k is stale, and so is each open one before it
pub record IsStaleBehind (slots : ℕ) (bytes : List ℕ) (taken k : ℕ) : Type 0 where
  pub stale : IsStale taken (batch_at slots bytes k)
  pub before : (j : ℕ) → j < k → IsOpen (gate_of j) bytes → IsStale taken (batch_at slots bytes j)

-- each slot before slot k is open and not stale, and the batch of slot k begins with the next number
pub record IsNextBehind (slots : ℕ) (bytes : List ℕ) (taken k : ℕ) : Type 0 where
  pub numbered : (batch_at slots bytes k).first ≡ taken + length (points_before slots bytes taken k)
  pub opened : (j : ℕ) → j < k → IsOpen (gate_of j) bytes
  pub beyond : (j : ℕ) → j < k → taken < (batch_at slots bytes j).first + (batch_at slots bytes j).count

-- the number of the first raw value in slot k fits the slots before it
abbrev pub FollowsOn : ℕ → List ℕ → ℕ → ℕ → Type 0
FollowsOn slots bytes taken k = IsStaleBehind slots bytes taken k ⊎ IsNextBehind slots bytes taken k

-- a batch has 1 to 64 raw values
pub record IsCounted (b : Batch) : Type 0 where
  pub some : 1 ≤ b.count
  pub few : b.count ≤ 64

-- slot k keeps the layout
pub record IsSound (slots : ℕ) (bytes : List ℕ) (taken k : ℕ) : Type 0 where
  pub counted : IsCounted (batch_at slots bytes k)
  pub follows : FollowsOn slots bytes taken k
  pub in_range : All InRange (batch_at slots bytes k).points

-- each open slot among the first n keeps the layout
pub record IsLane (slots : ℕ) (bytes : List ℕ) (taken n : ℕ) : Type 0 where
  pub sound : (k : ℕ) → k < n → IsOpen (gate_of k) bytes → IsSound slots bytes taken k

-- Where a lane first breaks the layout.
use Rattle.std.specs.Prelude.{◌≡◌, ◌⊎◌, ℕ, ◌+◌, ◌*◌, ◌<◌, List, take, drop, slice_index, Option, Some}
use Rattle.std.specs.List.{All}
use Rattle.trend_num.specs.{InRange}
use Rattle.disk_model.specs.{IsOpen}
use Rattle.archive_file.specs.{point_at}
use Rattle.event_queue.specs.Slots.{gate_of, place_of, slot_at, batch_at}
use Rattle.event_queue.specs.Lanes.{FollowsOn, IsCounted, IsLane}

-- the count of slot k, 8 bytes after the slot's beginning, is not from 1 to 64
pub record IsCountBroken (slots : ℕ) (bytes : List ℕ) (k o : ℕ) : Type 0 where
  pub field : o ≡ 8
  pub broken : IsCounted (batch_at slots bytes k) → ⊥

-- the count of slot k is from 1 to 64, but the number of its first raw value, at the slot's beginning, does not fit the
-- slots before
pub record IsFirstBroken (slots : ℕ) (bytes : List ℕ) (taken k o : ℕ) : Type 0 where
  pub field : o ≡ 0
  pub counted : IsCounted (batch_at slots bytes k)
  pub broken : FollowsOn slots bytes taken k → ⊥

-- both fields are good, and point i is the first that is out of range
pub record IsPointBroken (slots : ℕ) (bytes : List ℕ) (taken k o i : ℕ) : Type 0 where
  pub field : o ≡ 10 + 16 * i
  pub counted : IsCounted (batch_at slots bytes k)
  pub follows : FollowsOn slots bytes taken k
  pub there : i < (batch_at slots bytes k).count
  pub before : All InRange (take i (batch_at slots bytes k).points)
  pub broken : InRange (point_at (drop (10 + 16 * i) (slot_at slots bytes k))) → ⊥

-- the first field of slot k that breaks the layout begins so many bytes after the slot's beginning
abbrev pub BreaksSlotAt : ℕ → List ℕ → ℕ → ℕ → ℕ → Type 0
BreaksSlotAt slots bytes taken k o =
    IsCountBroken slots bytes k o
    ⊎ (IsFirstBroken slots bytes taken k o ⊎ ((i : ℕ) × IsPointBroken slots bytes taken k o i))

-- slot k is open and breaks the layout, and no open slot before it does
pub record IsSlotDamaged (slots : ℕ) (bytes : List ℕ) (taken a : ℕ) (byte : Option ℕ) (k o : ℕ) : Type 0 where
  pub within : k < slots
  pub before : IsLane slots bytes taken k
  pub opened : IsOpen (gate_of k) bytes
  pub breaks : BreaksSlotAt slots bytes taken k o
  pub place : a ≡ place_of slots k + o
  pub byte_there : byte ≡ Some (slice_index bytes a)

-- the first damage of a lane
abbrev pub IsLaneDamage : ℕ → List ℕ → ℕ → ℕ → Option ℕ → Type 0
IsLaneDamage slots bytes taken a byte = (k : ℕ) × (o : ℕ) × IsSlotDamaged slots bytes taken a byte k o

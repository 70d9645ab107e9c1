-- What a scan returns for a lane.
use Rattle.std.specs.Prelude.{◌≡◌, ◌≢◌, ◌⊎◌, ◌↔◌, ℕ, ◌+◌, ◌*◌, ◌-◌, ◌<◌, ◌≤◌, Bool, true, false, IsTrue, List, [], length, slice_index}
use Rattle.std.specs.List.{All}
use Rattle.trend_num.specs.{InRange}
use Rattle.disk_model.specs.{open_byte, IsOpen}
use Rattle.event_queue.specs.declared.reader.Scanned.{Scanned}
use Rattle.event_queue.specs.Slots.{gate_of, batch_at}
use Rattle.event_queue.specs.Lanes.{IsStale, points_before, IsLane}

-- this holds of what was read from the first n slots, whatever the device has
pub record IsWithin (slots taken n : ℕ) (s : Scanned) : Type 0 where
  pub slots_same : s.lane.slots ≡ slots
  pub used : s.lane.used ≤ n
  pub number : s.lane.next ≡ taken + length s.points.items
  pub few : length s.points.items ≤ 64 * s.lane.used
  pub in_range : All InRange s.points.items
  pub none_stale : s.stale ≡ true → s.points.items ≡ []

-- This was read from the first n slots. Each open one keeps the layout, and these are the points. `used` is the number
-- of the last open slot plus 1, or 0 if none is open.
pub record IsRead (slots taken : ℕ) (bytes : List ℕ) (n : ℕ) (s : Scanned) : Type 0 where
  pub lane : IsLane slots bytes taken n
  pub points : s.points.items ≡ points_before slots bytes taken n
  pub last : 0 < s.lane.used → IsOpen (gate_of (s.lane.used - 1)) bytes
  pub none_behind : (k : ℕ) → s.lane.used ≤ k → k < n → slice_index bytes (gate_of k) ≢ open_byte
  pub stale : IsTrue s.stale ↔ ((k : ℕ) × (k < n) × IsOpen (gate_of k) bytes
      × IsStale taken (batch_at slots bytes k))

-- a batch whose first raw value has this number may be in slot k, after the slots that were read
abbrev pub FitsSlot : Scanned → ℕ → ℕ → Bool → Type 0
FitsSlot s k first true = (s.stale ≡ true) ⊎ (s.lane.used ≡ 0)
FitsSlot s k first false = (s.stale ≡ false) × (s.lane.used ≡ k) × (s.lane.next ≡ first)

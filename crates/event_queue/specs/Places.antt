-- A position in a lane: what it needs of a device, and what a lane in use holds.
use Rattle.std.specs.Prelude.{◌≡◌, ◌≢◌, ℕ, ◌+◌, ◌<◌, ◌≤◌, List, length, slice_index}
use Rattle.trend_num.specs.{Point}
use Rattle.disk_model.specs.{open_byte, IsOpen}
use Rattle.event_queue.specs.Slots.{gate_of, lane_end, batch_at}
use Rattle.event_queue.specs.Lanes.{IsStale, lane_points, IsLane}

-- the whole lane is there, and no gate from `used` on is open
pub record HasRoom (slots used : ℕ) (c : List ℕ) : Type 0 where
  pub long : lane_end slots ≤ length c
  pub shut : (k : ℕ) → used ≤ k → k < slots → slice_index c (gate_of k) ≢ open_byte

-- A lane in use. Its first `used` slots are open. Their raw values are numbered from `taken` up to `next`, and are
-- these points.
pub record IsFilled (slots taken used next : ℕ) (c : List ℕ) (held : List Point) : Type 0 where
  pub room : HasRoom slots used c
  pub lane : IsLane slots c taken slots
  pub opened : (k : ℕ) → k < used → IsOpen (gate_of k) c
  pub beyond : (k : ℕ) → k < used → taken < (batch_at slots c k).first + (batch_at slots c k).count
  pub points : lane_points slots c taken ≡ held
  pub number : next ≡ taken + length held

-- a lane that a summary has overtaken: each open slot is stale
pub record IsOvertaken (slots taken : ℕ) (c : List ℕ) : Type 0 where
  pub lane : IsLane slots c taken slots
  pub stale : (k : ℕ) → k < slots → IsOpen (gate_of k) c → IsStale taken (batch_at slots c k)

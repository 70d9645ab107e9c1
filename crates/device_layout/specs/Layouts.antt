-- A layout that was just made: the gate is open, the header is that of a tag, and all after it is zeros.
use Rattle.std.specs.Prelude.{◌≡◌, ℕ, ◌<◌, ◌≤◌, List, length, take, drop, slice_index}
use Rattle.trend_num.specs.{TagDef}
use Rattle.disk_model.specs.{IsOpen}
use Rattle.event_queue.specs.{lane_end}
use Rattle.device_layout.specs.Headers.{header_image}

-- a device of a tag with so many lane slots, before its first batch and its first checkpoint
pub record IsMade (def : TagDef) (slots : ℕ) (c : List ℕ) : Type 0 where
  pub opened : IsOpen 0 c
  pub header : take 127 (drop 1 c) ≡ header_image def slots
  pub long : lane_end slots ≤ length c
  pub zeros : (i : ℕ) → 128 ≤ i → i < lane_end slots → slice_index c i ≡ 0

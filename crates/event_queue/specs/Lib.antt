pub mod Slots
pub mod Lanes
pub mod Damages
pub mod Places
pub mod Scans
pub mod Pieces
pub use Slots.{gate_of, place_of, lane_end, Batch, batch_bytes, slot_points, count_in, batch_in, slot_at, batch_at}
pub use Lanes.{IsStale, points_beyond, slot_points_of, points_before, lane_points, IsStaleBehind, IsNextBehind, FollowsOn, IsCounted, IsSound, IsLane}
pub use Damages.{IsCountBroken, IsFirstBroken, IsPointBroken, BreaksSlotAt, IsLaneDamage}
pub use Places.{HasRoom, IsFilled, IsOvertaken}
pub use Scans.{IsWithin, IsRead, FitsSlot}
pub use Pieces.{IsOpenSlot, IsPiece}

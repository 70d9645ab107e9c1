-- A record at a place.
use Rattle.std.specs.Prelude.{◌≡◌, ℕ, ◌<◌, List, length, slice_index_or}
use Rattle.trend_num.specs.{Rec}

-- r is the record of l at the place i, and its time is t
pub record StandsAt (l : List Rec) (i t : ℕ) (r : Rec) : Type 0 where
  pub within : i < length l
  pub there : slice_index_or l i r ≡ r
  pub time : r.point.t ≡ t

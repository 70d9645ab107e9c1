-- How a pool stores its frames.
use Rattle.std.specs.Prelude.{◌≡◌, ◌≢◌, ℕ, ◌-◌, ◌^◌, ◌<◌, ◌≤◌, if◌then◌else◌, List, ◌++◌, Option, Some, None, is_none, length, map, replicate, count_by, slice_index_or, AllPairs, All}
use Rattle.page_pool.specs.declared.frame.Frame.{Frame}
use Rattle.page_pool.specs.declared.pool.PooledFrame.{PooledFrame}

-- the frame of a pooled frame, if it is taken
abbrev pub held_in : PooledFrame → Option Frame
held_in pooled = if pooled.held then Some pooled.frame else None

-- the places of these pooled frames, then the places that were never taken
abbrev pub places_of : List PooledFrame → ℕ → List (Option Frame)
places_of frames size = map held_in frames ++ replicate (size - length frames) None

-- the id is that of a pooled frame that is spare
abbrev pub IsFree : List PooledFrame → ℕ → Type 0
IsFree frames id = (id < length frames) × (slice_index_or (map held_in frames) id None ≡ None)

-- pooled frames and free ids in vectors with this room: the vectors have a place for each frame, so that neither ever
-- grows
pub record AreFramesStored (frames : List PooledFrame) (free : List ℕ) (size frame_room free_room : ℕ) : Type 0 where
  pub within : length frames ≤ size
  pub small : size < 2 ^ 32
  pub place_room : frame_room ≡ size
  pub id_room : free_room ≡ size
  -- each free id is that of a spare frame, no two are of the same one, and each spare frame has an id
  pub spare : All (IsFree frames) free
  pub once : AllPairs ◌≢◌ free
  pub counted : length free ≡ count_by is_none (map held_in frames)

-- The model of a pool of frames: a list of places, each with the frame that was taken there, or None.
use Rattle.std.specs.Prelude.{◌≡◌, ℕ, ◌<◌, pos, List, Option, Some, None, IsSome, is_none, length, replicate, count_by, slice_index_or, slice_set}
use Rattle.page_pool.specs.declared.frame.Frame.{Frame}

-- how many points a frame has room for
abbrev pub full_page : ℕ
full_page = 128

-- a frame of no points
unfoldable pub empty_frame : Frame
empty_frame = record {
  len = 0;
  times = replicate full_page 0;
  values = replicate full_page (pos 0);
  late = 0;
  area = pos 0;
  low = pos 0;
  high = pos 0;
}

-- the frame of an id, if it was taken
abbrev pub frame_at : List (Option Frame) → ℕ → Option Frame
frame_at pool id = slice_index_or pool id None

-- the frame at the place of this id is taken
abbrev pub IsHeld : List (Option Frame) → ℕ → Type 0
IsHeld pool id = IsSome (frame_at pool id)

-- how many frames are spare
abbrev pub spare_of : List (Option Frame) → ℕ
spare_of pool = count_by is_none pool

-- the frame of the id was spare, and is now taken and empty; every other frame is as before
pub record TakesFrame (old : List (Option Frame)) (id : ℕ) (new : List (Option Frame)) : Type 0 where
  pub within : id < length old
  pub was_spare : frame_at old id ≡ None
  pub now_empty : new ≡ slice_set old id (Some empty_frame)

-- the frame of the id is now spare; every other frame is as before
abbrev pub GivesFrame : List (Option Frame) → ℕ → List (Option Frame) → Type 0
GivesFrame old id new = new ≡ slice_set old id None

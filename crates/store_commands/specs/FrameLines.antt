-- The lines of `frames`, byte for byte.
use Rattle.std.specs.Prelude.{◌≡◌, ℕ, ◌^◌, ◌<◌, ◌≤◌, List, [], ◌++◌, codes, if◌then◌else◌}
use Rattle.std.specs.Fmt.{decimal}
use Rattle.std.specs.List.{flat_map}
use Rattle.trend_num.specs.{last_time, CalcValue}
use Rattle.calc_refresh.specs.{grid_of}
use Rattle.sheet_law.specs.{window_from, window_to}
use Rattle.tag_base.specs.{GroupDef}
use Rattle.event_frames.specs.{Edit, Frame, AreEdits, AreFrames, truths_of}
use Rattle.event_frames.specs.declared.frame.Edit.TheVariants.{Gone, New}

-- when a frame of a group's calculation begins, and when it ends, in milliseconds from 1970
abbrev pub frame_from : GroupDef → Frame → ℕ
frame_from g f = window_from (grid_of g.start g.period) f.from

abbrev pub frame_to : GroupDef → Frame → ℕ
frame_to g f = window_to (grid_of g.start g.period) f.upto

-- a frame that begins and ends at times in range, and whose last window has a number below 2^63
pub record IsFrameTimed (g : GroupDef) (f : Frame) : Type 0 where
  pub few : f.upto < 2 ^ 63
  pub begins : frame_from g f ≤ last_time
  pub ends : frame_to g f ≤ last_time

-- each of the first so many windows of a group ends at a time
abbrev pub AreTimes : GroupDef → ℕ → Type 0
AreTimes g windows = (k : ℕ) → k < windows → window_to (grid_of g.start g.period) k ≤ last_time

-- the frame of an edit
abbrev pub frame_of : Edit → Frame
frame_of (Gone f) = f
frame_of (New f) = f

-- the line of a frame after a word: `WORD FROM TO`, and ` open` after it if the frame has the last window that there is
abbrev pub frame_text : List ℕ → GroupDef → Frame → List ℕ
frame_text word g f = word ++ codes " " ++ decimal (frame_from g f) ++ codes " " ++ decimal (frame_to g f)
    ++ (if f.last then codes " open" else []) ++ codes "\n"

-- the line of an edit
abbrev pub edit_text : GroupDef → Edit → List ℕ
edit_text g (Gone f) = frame_text (codes "gone") g f
edit_text g (New f) = frame_text (codes "new") g f

-- a line for each edit, and then one for each frame
abbrev pub frames_text : GroupDef → List Edit → List Frame → List ℕ
frames_text g edits frames = flat_map (edit_text g) edits ++ flat_map (frame_text (codes "frame") g) frames

-- This is the text about a calculation that had the first row and now has the second. It lists what became of the
-- frames that have at least so many windows, and then the frames that there are now.
pub record TellsFrames (g : GroupDef) (least : ℕ) (saved refreshed : List CalcValue) (text : List ℕ) : Type 0 where
  pub edits : List Edit
  pub frames : List Frame
  pub are_edits : AreEdits (truths_of saved) (truths_of refreshed) least edits
  pub are_frames : AreFrames (truths_of refreshed) least frames
  pub same : text ≡ frames_text g edits frames

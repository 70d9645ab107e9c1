pub mod Row
pub mod Frames
pub mod Edits
pub mod Levels
pub mod Near
pub use Row.{is_true, truths_of, is_true_in, put_at, row_with, truths_with, IsChangeList}
pub use Frames.{IsFrame, IsListOf, AreFrames, FramesState}
pub use Edits.{AreEdits}
pub use Levels.{is_set, AreSet, IsGapFrom, IsOver, AreLevels, LevelsState, IsBehind, IsStart}
pub use Near.{IsNear, no_change, window_of, IsChanged, IsNearOne, IsEarly, edit_of, AddsMissing, IsChangedAt}
pub use declared.frame.Change.{Change}
pub use declared.frame.Edit.{Edit}
pub use declared.frame.Frame.{Frame}

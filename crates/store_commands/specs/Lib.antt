pub mod GroupRows
pub mod Commands
-- only private functions cite it
pub mod Refreshing
-- what readers are answered
pub mod Replies
pub mod TagContents
pub mod FrameNames
pub mod FrameLines
pub mod FrameRows
pub mod FrameCommands
pub use Refreshing.{IsCutBook, AreCutBooks, book_cells, AreWithinLimits, IsRefreshedOnce, AreRefreshedOnce, HaveDevicesOf, IsOverIn, refresh_status, IsOverSome}
pub use Replies.{answer_in, snapshot_in, Rows, rows_in, value_in, told, reply_line, replies_from, told_from, trend_text}
pub use TagContents.{AreContentsOf}
pub use FrameNames.{IsNamed, IsPlaced, NoCalculation}
pub use FrameLines.{IsFrameTimed, AreTimes, frame_of, frame_text, edit_text, TellsFrames}

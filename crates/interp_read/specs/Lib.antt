pub mod Closing
pub mod NextTo
pub mod Readable
pub mod Replies
pub use Closing.{points_closed_by, IsAfterAll}
pub use NextTo.{AreNeighbours}
pub use Readable.{IsRoundable, IsReadable}
pub use Replies.{AreAlike, Answers, IsReadableReply}
pub use declared.query.Reply.{Reply}

pub mod Snaps
pub mod Rules
pub mod Boards
pub use Snaps.{snap_of, nothing}
pub use Rules.{posting, looking, FitsPost, IsKept, Posts, Looks}
pub use Boards.{Posting, Looking, PostsTo, LooksAt, new_poster, new_posters, new_looker}
pub use declared.rule.View.{View}
pub use declared.words.Shown.{Shown}

pub mod Totals
pub mod Places
pub mod Moves
pub mod Pages
pub mod PageTotals
pub mod PageLengths
pub use Totals.{least_of, greatest_of, outer, extreme_of, no_point, summary_of, no_summary, joined, joined_of, piece_most, page_most, pages_most, IsSmall}
pub use Places.{StandsAt}
pub use Moves.{Listed, leaf_of, no_leaf, picked, AreOrdered, placed_pages, begin_of, IsLastUpto, rewritten, moved, summaries_of, AreBlocks, AreBlocksBut}
pub use Pages.{kind_of, rec_in, frame_records_in, IsRecorded, IsPage, records_at, page_in, page_records_of, lengths_of, IsPageAt, ArePagesFrom, AreApart, ids_of, AreHalves, ArePages, IsPageRead, IsFor, IsSplit, IsHalfFor, IsOn, IsWalk}
pub use Pages.{IsRun, IsKept, IsBlock}
pub use PageTotals.{IsPageOf}
pub use PageLengths.{place_in, ArePagesFilled, IsGrown, IsHalved, IsPutAmong, AreFull, IsOneOf}
pub use declared.directory.Leaf.{Leaf}
pub use declared.directory.Page.{Page}
pub use declared.total.Extreme.{Extreme}
pub use declared.total.Summary.{Summary}

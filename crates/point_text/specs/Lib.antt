-- what whole texts read as, and what is printed
pub mod Row
pub mod Text
-- what the calls on one line mean
pub mod FirstPoint
pub use Row.{with_first, all_rows, unless_more, rows_of, point_of, point_read, point_of_fields, point_of_line, line_points_of}
pub use Text.{record_line, held_line, archive_text}
pub use FirstPoint.{HasNoFeed, IsFirstPoint, reads_of, ReadSame, EndsAt, IsField}
pub use declared.failure.RowNo.{RowNo}

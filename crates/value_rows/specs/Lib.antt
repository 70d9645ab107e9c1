-- rows of any kind
pub mod Reading
-- rows of collectors
pub mod Raw
-- rows of readers
pub mod Asked
-- only private functions cite these
pub mod Form
pub mod RowReader
pub mod Narrow
pub use Reading.{text_records_of, rows_read, rows_of_text, AreRefusedFor}
pub use Raw.{first_place_of, raw_row, IsRawRow, raw_rows}
pub use Asked.{last_window, calc_names_at, query_row, IsQuery, query_rows}
pub use RowReader.{is_between, records_left, HasLeft, IsNext, ArePlaces, IsHint, ReadsRecords, reads_behind, has_mark, IsFirstRow, AreFirstRows}
pub use Narrow.{part_after, ended_after, IsWide, IsNarrow, RefusesWide, AgreeUpToWide}
pub use declared.asked.GroupNames.{GroupNames}
pub use declared.asked.Query.{Query}
pub use declared.narrow.FieldPart.{FieldPart}
pub use declared.raw.RawRow.{RawRow}

pub mod Blocks
pub mod Images
pub mod Openings
pub mod Tapes
pub mod Writes
pub mod Histories
pub mod Told
pub mod Devices
pub use Blocks.{row_image, rows_image, log_block_image, log_block_size, most_in_block, IsLogRow, AreBlockRows, HasBlock, HasBlocks, log_end_of, rows_of, row_at, row_fields, rows_fields, front_fields, body_fields, block_fields}
pub use Blocks.{IsBlockDamage}
pub use Images.{letters, IsOfOther, StandsForRows, ByNothing, ByBlocks, IsLogDamage, BadHead, BadBlock, LogsNothing, log_points_of}
pub use Openings.{most_rows, AddsRows, AddsBlock, ListsRows, Stores, IsFound, IsLeftOrStands, StandsSame, IsLogLeftOrSame, IsLogOpenedWell, LogBeganWell, GainsLogSync, IsTooMany, IsLogCause, refusal_of}
pub use Tapes.{puts, acked_at, LogWalk, log_begin, after_turn, log_walked}
pub use Writes.{WritesRows, IsBlockOf}
pub use Histories.{LogTurnFits, LogTurnsFit, IsLogLegal, StandsForPart, IsLogSafe}
pub use Told.{ToldLog, HasRoomForPuts, Waits, IsReady, IsKept, rows_waiting, put_refusal, AreRowsAcknowledged, IsHandedOut}
pub use Devices.{log_name}
pub use declared.block_reader.LogReader.{LogReader}
pub use declared.block_reader.Stored.{Stored}
pub use declared.history.LogAcked.{LogAcked}
pub use declared.history.LogHistory.{LogHistory}
pub use declared.history.LogTurn.{LogTurn}
pub use declared.opening.Parts.{Parts}
pub use declared.refusal.LogCommitNo.{LogCommitNo}
pub use declared.refusal.LogNo.{LogNo}
pub use declared.refusal.PutRowNo.{PutRowNo}
pub use declared.row.LogRow.{LogRow}

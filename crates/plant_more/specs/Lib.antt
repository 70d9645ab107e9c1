pub mod Words
pub mod Endings
pub mod Logs
pub mod LogTexts
pub mod LogOpenings
pub mod LogKnown
pub mod LogFinding
pub mod LogMaking
pub mod LogRefusals
pub mod LogReports
pub mod LogHeadline
pub mod LogTurns
pub mod LogNotes
-- modules that only private functions cite
pub mod LogCrew
pub mod CalendarFile
pub mod ShiftLines
pub mod Shifts
pub mod ShiftTags
pub use Words.{log_words, words_named, AskedShifts, shift_words}
pub use Endings.{Scene, scene, CountsFor, EndsOver, IsUnread, AsksForNone, EndsOfShifts, KeepsForShifts}
pub use Logs.{EndsOfLog}
pub use LogTexts.{plant_text}
pub use LogKnown.{IsAsKnown, found_numbers, known_numbers, FirstDiffer, IsLogMismatch}
pub use LogMaking.{total_rows, IsRowFor, AreRowsFor, IsRowPut, IsCommitRefusal}
pub use LogReports.{log_rows, log_origin_of, log_history_of, AreStanding, HasRoomAt, HasRoomBelow, IsTagFull}
pub use LogTurns.{row_of, is_commit_due, IsCommit, IsSameLog, IsCommitted, IsPutAt}
pub use LogNotes.{row_lists_of, RefusesPut, EndsAt, IsNoteOf, AreLogNotesOf, halts, ending_of_commit}
pub use CalendarFile.{IsCalendarRefusal}
pub use ShiftLines.{value_in, DatedWindow, dated, shift_line, shift_name_at, value_at, window_lines, AreLines, AreShiftLines}
pub use ShiftTags.{IsShiftTag, AreShiftTags, shift_value_of, tag_line, tag_lines}
pub use declared.log_command.LogOutcome.{LogOutcome}
pub use declared.log_known.KnownLog.{KnownLog}
pub use declared.log_note.LogEnding.{LogEnding}
pub use declared.log_note.LogNote.{LogNote}
pub use declared.log_session.EndedLog.{EndedLog}
pub use declared.log_worker.LogWorker.{LogWorker}
pub use declared.shift_tag.ShiftTag.{ShiftTag}

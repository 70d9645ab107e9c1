pub mod Lines
pub mod CheckLines
pub mod Drill
pub use Lines.{is_late, is_kept, tag_line_of, point_text, held_text, tag_text, whole_of, reading_text, points_text, number_text, value_text, answer_text, told_text, reply_text, last_text, group_lines, group_line_text}
pub use CheckLines.{core_text, check_text}
pub use Drill.{event, signal_after, signal_at, drill_points, IsNear}
pub use declared.drill.Signal.{Signal}
pub use declared.group_line.LastRow.{LastRow}
pub use declared.reply_line.ReplyText.{ReplyText}

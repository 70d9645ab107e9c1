-- what the public call means
pub mod Pack
-- what private functions alone cite
pub mod Coming
pub use Pack.{most_input_bytes, most_rows, Refuses, origin_of, history_of, first_full, answer_full, history_answer, status_of_rows, answer_rows, pack_answer, IsInputRead, IsPrinted, RefusesBytes, IsPackRefusal}
pub use Coming.{MayCome, IsReadUpTo, IsNextRow, AreRefused, AreTaken, HasCome, IsReady, numbered, point_of_row, AreTakenFrom, IsReadAfter, IsAllRead}
pub use declared.intake.Intake.{Intake}
pub use declared.intake.Standing.{Standing}

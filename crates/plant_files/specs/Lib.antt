pub mod Reading
pub mod Texts
pub mod RowFiles
pub mod Asked
pub mod Collected
pub mod Faults
pub mod PlanRows
pub mod NumberWords
pub mod Printing
pub use Texts.{most_text_bytes, tag_names, IsBaseFile, IsBaseRefusal, IsPlanFile, IsPlanRefusal}
pub use RowFiles.{most_file_bytes, ToldFiles, IsRowFile, row_status, IsRowRefusal, IsFileOf, AreRowFiles, IsFirstRefused}
pub use Asked.{IsNamed, AreNamed, asked_calcs_at, IsQueryOfBase, AreReaderFiles, IsReaderRefused, AreQueries, IsQueriesRefusal, ToldFiles}
pub use Collected.{most_collector_rows, IsRowOfBase, AreCollectorFiles, IsCollectorRefused, AreCollectedRows, IsCollectedRefusal, row_count, AreRowsTooMany}
pub use Faults.{IsFaultOfPlanned}
pub use NumberWords.{number_upto, count_upto}
pub use Printing.{IsTold, IsPrintedSo, PrintsSo, WhereDone}

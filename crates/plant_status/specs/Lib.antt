pub mod Word
pub mod Line
pub mod Status
pub mod Pass
pub use Line.{is_printable, IsPrintable}
pub use Status.{code_of, status_line_of}
pub use Pass.{sum_of_fault_counts, sum_from}
pub use declared.file.FileId.{FileId}
pub use declared.mismatch.Seen.{Seen}
pub use declared.unit.Unit.{Unit}

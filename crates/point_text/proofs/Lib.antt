pub mod RowList
pub mod Split
pub mod PointList
pub mod DigitRun
pub mod PlainLine
pub mod LongLine
pub mod Printing

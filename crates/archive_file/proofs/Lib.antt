pub mod Points
mod Flags
mod Parts
pub mod Joins
pub mod Logs
pub mod Spellings
pub mod Beginnings
pub mod FieldLaws
pub mod FirstFields
pub mod PlacedBytes
pub mod ReadImages
pub mod LayoutSpellings
pub mod TextHeads
pub mod Windows
pub mod BlockFiles

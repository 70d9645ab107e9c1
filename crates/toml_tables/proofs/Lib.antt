pub mod Entries
pub mod Documents
pub mod Items

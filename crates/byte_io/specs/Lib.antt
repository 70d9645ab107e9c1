pub mod Outside
pub mod Memory
pub mod Standard
pub mod Files
pub mod Folders
pub use Files.{FileTold, Untold, Missing, Holds, HasAt, IsWhole, IsLongerThan, IsFaultOf, bytes_of, files_named}

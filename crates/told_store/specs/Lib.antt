pub mod FirstBytes
pub mod Folders
pub mod Notes
pub mod Places

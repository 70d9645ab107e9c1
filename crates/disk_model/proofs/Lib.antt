pub mod Bytes
pub mod Images
pub mod Moments
pub mod Guards
pub mod Closings
mod Logs
mod Places

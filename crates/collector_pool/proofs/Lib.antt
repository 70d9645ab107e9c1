pub mod Places
pub mod Snaps
pub mod Endings
pub mod Seats
pub mod Sessions
pub mod Leaving

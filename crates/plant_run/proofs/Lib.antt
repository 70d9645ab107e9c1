pub mod Refusals
pub mod Shifting
pub mod Words

pub mod Taking
pub mod Counts
pub mod Slopes

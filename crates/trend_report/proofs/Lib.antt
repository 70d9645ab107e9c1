pub mod Rounding
pub mod Drilling
pub mod CheckLines
pub mod Counts

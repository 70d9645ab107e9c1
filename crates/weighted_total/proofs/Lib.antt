pub mod EndsOf
pub mod Measuring
pub mod Sums
pub mod Walking

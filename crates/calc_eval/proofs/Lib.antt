pub mod Quotient
pub mod Growth
pub mod Range

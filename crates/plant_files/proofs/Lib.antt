pub mod Refusals
pub mod Named
pub mod InOrder
pub mod Distinct
pub mod DistinctGroups
pub mod Faults
pub mod Printing

pub mod RisingPoints
pub mod Readable
pub mod ClosedPoints
pub mod ReadsNextTo
pub mod Listing

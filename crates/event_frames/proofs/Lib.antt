pub mod Blocks
pub mod Listing
pub mod Framing
pub mod Nearing
pub mod Putting
pub mod Changing
pub mod Differing
pub mod Unique

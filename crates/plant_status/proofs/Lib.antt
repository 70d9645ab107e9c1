pub mod Printable
pub mod Elements
pub mod Gathering

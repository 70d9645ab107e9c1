mod Copies
pub mod Checked

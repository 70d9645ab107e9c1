pub mod Numbers
pub mod Sameness
pub mod NameText

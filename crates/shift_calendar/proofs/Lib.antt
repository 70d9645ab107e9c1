pub mod Lists
pub mod Moments
pub mod DayWords
pub mod DayNumbers

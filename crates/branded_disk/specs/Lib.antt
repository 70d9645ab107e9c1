pub mod Pasts
pub use Pasts.{Past, untold, past_of, branded, IsUnused, told_of, IsWholePast}

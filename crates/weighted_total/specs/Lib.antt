pub mod Shapes
pub use Shapes.{inner, outline, counted, AreEnds, IsShape}
pub use declared.shape.Ends.{Ends}

pub mod Window
pub mod Alike
pub mod Stretch
pub mod Stay
pub mod Complete
pub mod Formulas

pub mod History
pub mod Refusal
pub mod Coming
pub mod Buffer
pub mod Ending
pub mod Pieces

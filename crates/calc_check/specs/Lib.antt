pub mod Group
pub mod Code
pub use Code.{group_code}
pub use declared.definition.CalcDef.{CalcDef}
pub use declared.refusal.CheckNo.{CheckNo}

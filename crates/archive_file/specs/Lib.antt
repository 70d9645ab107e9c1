pub mod Fields
pub mod Records
pub mod Summaries
pub mod Places
pub mod LayoutFields
pub mod TextHeads
pub mod Windows
pub mod BlockFiles
pub use Fields.{number_bytes, value_bytes, point_bytes, place_bytes, point_at}
pub use Records.{kind_byte, rec_image, recs_image}
pub use Summaries.{tuning_bytes, flag, flags, places_image, summary_image, IsSummary}
pub use Places.{AreInRange, AreRecords, HasRecords, Adds, BreaksAt, IsRecordBroken, IsDamage}
pub use LayoutFields.{long_at, short_at, Spells, Keeps, EndsIn, Breaks, BreaksFirst}
pub use TextHeads.{letter_field, head_fields, blocks_at, text_in, HasHead, IsOfText, head_image, IsEmpty, IsLeftOrNew, IsLeftOrBegun, TextOpensAt}
pub use Windows.{IsWindow, IsAsked, AreAsked}
pub use BlockFiles.{Step, AreRead, AreAllRead, moved, IsFirstBroken}
pub use declared.failure.PutNo.{PutNo}
pub use declared.failure.ScanNo.{ScanNo}
pub use declared.layout_field.Field.{Field}

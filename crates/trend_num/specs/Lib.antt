pub mod Ranges
pub mod Limits
pub mod Queries
pub mod Lines
pub mod Names
pub mod Numerals
pub use Ranges.{last_time, largest_value, InRange, TuningInRange}
pub use Limits.{most_records, most_listed, most_stored}
pub use Queries.{IsTagQuery}
pub use Lines.{cross, Within, is_within, line_value, IsRounded, compare_slopes}
pub use Names.{is_name_byte, IsName}
pub use Numerals.{digits_value, unsigned_numeral, signed_by, numeral, natural_upto}
pub use declared.archive.Kind.{Kind}
pub use declared.archive.Rec.{Rec}
pub use declared.archive.Snap.{Snap}
pub use declared.archive.Summary.{Summary}
pub use declared.fraction.Frac.{Frac}
pub use declared.measure.Measure.{Measure}
pub use declared.point.Point.{Point}
pub use declared.query.TagQuery.{TagQuery}
pub use declared.reading.Reading.{Reading}
pub use declared.refusal.Reason.{Reason}
pub use declared.refusal.WantOfMemory.{WantOfMemory}
pub use declared.refusal.What.{What}
pub use declared.sending.Sending.{Sending}
pub use declared.tag_def.TagDef.{TagDef}
pub use declared.tuning.Tuning.{Tuning}
pub use declared.value.CalcValue.{CalcValue}

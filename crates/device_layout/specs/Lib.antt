pub mod Headers
pub mod SlotFields
pub mod Recovery
pub mod Layouts
pub mod Damages
pub mod Readings
pub use Headers.{letters, name_in, tuning_in, slots_in, is_step_in, def_in, byte_field, byte_fields, front_fields, is_name_at, name_fields, number_fields, zero_fields, header_fields, IsHeader, IsHeaderBroken, tuning_image, header_image}
pub use SlotFields.{has_flag, are_flags_ok, are_zeros, is_in_range, short_number, summary_fields, IsSlotBroken}
pub use Recovery.{header_of, log_place, summary_place, summary_gate, slot_bytes, is_open, taken_in, records_in, chosen, counting, no_summary, HasSummary, recovered_tuning, AllFit, state_of, start_of, IsOfTag, IsStored, values_beyond}
pub use Recovery.{IsReplayed, IsRecovered, Recovers}
pub use Layouts.{IsMade}
pub use Damages.{EndsBefore, StandsThere, IsHeaderDamage, IsLayoutDamage, IsSummaryDamage, IsLogDamage, ArePartsDamaged, IsQueueDamage, IsValuePlace, IsValueDamage, IsTagDamage, EndsShort, BadHeader, BadLayout, BadSummary, BadLog, BadParts}
pub use Damages.{BadQueue, BadValue}
pub use Readings.{IsOther, IsFull, IsCause, CountsRefusal, HasHeader, HasLayout, CountsSummary, IsFoundOn, IsReadFrom, refusal_of}
pub use declared.failure.OpenNo.{OpenNo}
pub use declared.slot.Slot.{Slot}

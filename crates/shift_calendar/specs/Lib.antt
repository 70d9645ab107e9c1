pub mod Answers
pub mod Calendars
pub mod Instants
pub mod Windows
pub mod Days
pub use Calendars.{starts_after, rises_from, CalendarParts, calendar_form_of, calendar}
pub use Instants.{IsLocalTime, IsInstant}
pub use Windows.{Shift, shift_at, below, shifts_of, shifts_over, IsWindow, AreWindows, IsWindowTimed}
pub use Days.{IsDayWord, IsFirstDay, IsWindowDay, IsShiftDay}
pub use declared.refusal.CalNo.{CalNo}
pub use declared.start.Start.{Start}
pub use declared.window.ShiftWindow.{ShiftWindow}

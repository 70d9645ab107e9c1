pub mod Number
pub mod Value
pub mod Windows
pub mod Touched
pub mod Scratch
pub use Number.{bounded, IsInRange, measured_value, after_operation, floor_div, floor_rem, divided, operated, holds, compared, IsFloorDivision}
pub use Value.{Scope, value, at_name, scope, points_in, values, measure_of}
pub use Windows.{window_from, window_to, reaches, is_complete, kept_end, windows_before, least, complete_windows}
pub use Touched.{times_of, first_or, last_or, stretch_from, stretch_to, meets, is_newest, touches, is_touched, any_touched, longer}
pub use Scratch.{points_by, values_at, column, IsScratch, is_due, due_below}
pub use declared.grid.Grid.{Grid}

pub mod Lists
pub mod History
pub mod Walk
pub mod Content
pub mod Contents
pub mod Reads
pub mod Bound
pub mod Doors
pub mod State
pub mod Parts
pub mod Windows
pub mod Orders
pub mod ReadFacts
pub mod Examples
pub use Lists.{IsAmong, Each, IfThere}
pub use History.{Event, Raw, Tune, Origin, Sent, InOrder, Late, Tuned, in_force, is_late, is_far, is_far_from, newest, prior, pending, is_pushed_out, sent_before, sent, IsInOrder, tuning_of_value, last_in_order}
pub use Content.{value_at, is_late_record, late_at, kept_at, content_at, value_at_point, closed_at, IsCleanSpan}
pub use Contents.{IsRising, IsContentOf, IsClosedContentOf, ContentState, over, placed, listed, closed_by, IsNotBefore, points_of, IsFloor, IsCeil, closed_points}
pub use Reads.{between, read_from, read_at, rounded, value_read, points_from_to}
pub use Bound.{IsNear, raw_deviation, IsBounded}
pub use Doors.{climb, down, IsNotSteeper, is_not_steeper, AreAfter, AreDoors, is_admitted, upper_after, lower_after}
pub use Parts.{kept_points, RisesAfter, PointsRise, last_point, BeginsKept, IsLateBefore, AreDoorsAt, AreFitDoors, DoorsFit, PendingFits, IsTagBegun, IsBlank, IsBegunOrBlank, IsRuled, ArePartsOk}
pub use Windows.{last_time_from, is_covered, end_at, shape, piece, area, lesser, greater, least_from, greatest_from, last_from, but_last, taken_values, of_first, measured, window_value}
pub use Orders.{RisesInTime, AllInOrder, sent_plainly, tunings, AllPoints, tuned_by}
pub use ReadFacts.{IsBetween, IsFracBetween}
pub use Examples.{at, lines, stairs, untested}

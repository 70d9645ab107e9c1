pub mod Journals
pub mod Seats
pub mod Opening
pub mod TagImages
pub use Journals.{Logged, AllRecover, GoesOnFrom, RecoversEither, LeavesEither, taken_of, journal_records_of, IsInUse, log_end, IsLaid, IsOverrun, IsSeat, free_in, IsNumbered}
unfoldable pub use Journals.{SeatedOn}
pub use Seats.{spare_slot, OverrunOn, restarted, IsLogged, IsReady, ReadyOn, lane_calls, record_calls, checkpoint_calls, stale_calls, log_calls, KeepsPlaces}
unfoldable pub use Seats.{LaidOn}
pub use Opening.{IsOpenedAs, IsCountable, RecoversSame, IsTagLeftOrSame, StaysSame, RecoversThen, HoldsValue, IsOverfull, OpensAs, HasSlots, IsReadAs, HasFree, HasFreeAtFirst, LeavesFree, MakesLayout, GainsSync, OpensAt}
pub use TagImages.{ImageStands, StandsOpened}
pub use declared.seat.Seat.{Seat}

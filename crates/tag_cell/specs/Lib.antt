pub mod Crashes
pub mod Devices
pub mod Replays
pub mod Tapes
pub mod Told
pub use Crashes.{RecoversPart, IsCountable, IsSafe, GoesOnBy, count_written, IsOpenedWell, BeganWell}
pub use Devices.{device_name}
pub use Replays.{Shown, IsTake, IsAnswer, IsPull, Fits, FitAll, shown_of, replayed, shown_by, shown_after, IsTapeReplayed, IsLegal}
pub use Tapes.{CellWalk, cell_start, after_entry, cell_walked, taken, last_records, acked_at, done, opened, state_after}
pub use Told.{ToldCell, IsInStep, HasRoomForTakes, Waits, IsKept, IsPosted, take_refusal, IsTakenBy, takes_waiting, AreTakesAcknowledged, IsCommitted, durable_records, IsCellHistory}
pub use declared.entry.Acked.{Acked}
pub use declared.entry.CommitNo.{CommitNo}
pub use declared.entry.Entry.{Entry}
pub use declared.entry.PullNo.{PullNo}
pub use declared.entry.Pulled.{Pulled}
pub use declared.entry.TakeNo.{TakeNo}
pub use declared.history.TagHistory.{TagHistory}
pub use declared.history.TagOpening.{TagOpening}

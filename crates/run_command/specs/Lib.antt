pub mod Endings
pub mod Refusals
pub mod Rooms
pub mod Units
pub mod Causes
pub mod Copies
pub mod Headline
pub mod Runs
pub mod Sessions
pub mod Steps
pub mod Drills
pub mod DrillPhases
pub mod DrillPlant
pub mod DrillRows
pub use Endings.{HaveAllEnded}
pub use Rooms.{AreRoomy}
pub use Units.{HasMade, IsTagSound, core_of, IsTagOpened, grid, AtEachGroup, AreGroupsSound, IsGroupOpened, opening_records_of, AreUnitsOpened, tag_tape, group_tape, tag_records_of, turns_in, AreTakesBegun, AreAsksBegun, IsBegun, IsOnTapes}
pub use Units.{IsAcknowledged, IsRecorded, IsGroupRefreshed}
pub use Copies.{IsCopied, AreCopied, MayBeUncopied, IsChecked, AsItCame, AsUncopied}
pub use Headline.{IsMixed, IsUpToDate, IsDoneSo, IsFaultCounted, CountsFaults, IsPromised}
pub use Steps.{AreGivenFor, AreCellTakesBegun, AreCellAsksBegun, AreBegun, AreTapesMade, AreStepsMade, IsCellKept, IsBookKept, AreInputsFor}
pub use Drills.{IsDrillBase, fresh_devices, drill_status, drill_answer, IsRunInPhases, device_seen, memory_device, IsTagNew, IsGroupNew, AreNew, ArePhasesApart, IsPulledElsewhere, IsPhaseCause, InFirst, InSecond, InPull, InReport}
pub use Drills.{IsDrillCause, IsDrilled, IsDrillUnopened}
pub use DrillPhases.{AreNotesOfBoth, AreNotesOfAllBoth, AreAllOrNone, IsUndoneOfBoth, OfFirst, OfSecond, OfFirstPull, OfReport}
pub use DrillPlant.{drill_tuning, drill_tag, drill_tags, drill_names, drill_calcs, IsDrillGroup}
pub use DrillRows.{row_of, drill_file, drill_rows_of}
pub use declared.phase.EndedPhase.{EndedPhase}
pub use declared.work.Given.{Given}

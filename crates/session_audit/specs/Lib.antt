pub mod Agendas
pub mod Found
pub mod Tapes
pub mod Each
pub mod Cells
pub mod CellOpenings
pub mod CellRefusals
pub mod FirstPulls
pub mod Starting
pub mod Finding
pub mod Adding
pub mod Workers
pub mod Books
pub mod Durable
pub mod Inputs
pub mod OpeningNumbers
pub mod Openings
pub mod BookOpenings
pub mod Pulls
pub mod Refreshing
pub mod BookRefusals
pub mod GroupTapes
pub mod GroupTurns
pub mod Gains
pub use Found.{Reached, place_at, next_due, found, lacks, IsCaughtUp, AreLinked, IsChained, IsUnfound, IsAdvanced, IsFollowed, IsWork, IsOtherDue, found_of, seen_by, tape_shows, AreFound, IsFurther, AreFurther, due_of, IsFirstPart}
pub use Found.{IsDifference}
pub use Tapes.{take_of, ask_of}
pub use Each.{AreEach}
pub use Cells.{IsTakeEntry, IsAskEntry, IsCommitEntry, IsLonger, AreLonger, cell_tape, AreAllFound, AreAllShown, AreAllBegun, IsKnownAsk}
pub use CellOpenings.{IsCellCopied, IsTagAsKept, IsCellAsKept, RecordsDiffer, IsTagDifference, IsCellDifference, IsCellMismatch}
pub use CellRefusals.{IsSo, tag_rows, takes_mismatch, IsTakeRefusal, OfBroken, OfRoom, OfLimit, take_status, IsCommittedCell, IsCellRefusal, OfFault, OfMemory, commit_status}
pub use FirstPulls.{acked_at_pull, takes_at_pull, HaveFirstPulls, IsFirstPullMismatch}
pub use Starting.{IsDueWithin, AreUnfound}
pub use Finding.{AreSameRows, IsMismatchAt, IsTakeMismatch, IsAskMismatch, IsRowAskMismatch}
pub use Adding.{IsLacking, IsAdded, IsStopped}
pub use Workers.{AreTapesFound, file_due, AreTapesWhole, AreTapesBegun, LacksRow, AreOver, IsOver, IsCaughtTo, AreOthersSame}
pub use Books.{book_tape, IsKnownRowAsk, IsAsk, IsNoAsk, IsAskedMore, IsRefreshedMore}
pub use Durable.{durable_in, ArePullsDurable}
pub use Inputs.{IsInputsOf, AreInputs}
pub use OpeningNumbers.{seen_of, AreApart}
pub use Refreshing.{durable_lists, durable_numbers, IsPull, IsPulledMore, EndsInSave, IsSavedOn, IsRefreshedTo, AreBooksRefreshed}
pub use BookRefusals.{pull_refusal, save_status, IsSaveCause, IsSaveRefusal, IsBookRefusal, OfRefresh, OfSave, IsRefreshRefusal}
pub use GroupTapes.{row_ask_of, reached_by, refreshes, reached, pulled}
pub use GroupTurns.{turns_for, IsWithinTurns, IsAboveTurns, IsBookAbove, IsTurnsMismatch}
pub use Gains.{longer_trans}
pub use declared.agenda.Agenda.{Agenda}
pub use declared.agenda.Item.{Item}
pub use declared.agenda.Rows.{Rows}
pub use declared.book_opening.KeptGroup.{KeptGroup}
pub use declared.cell_opening.Kept.{Kept}
pub use declared.kind.Shown.{Shown}
pub use declared.opening.Difference.{Difference}

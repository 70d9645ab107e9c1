pub mod Tapes
pub mod Histories
pub mod Crashes
pub mod Told
pub mod Saves
pub mod Refusals
pub mod InputLists
pub mod Openings
pub use Tapes.{BookWalk, book_start, after_turn, book_walked, saved_at, cut, uncut, versions_since}
pub use Histories.{scratch_at, IsRight, AreValuesInRange, is_due_since, AreRowsOver, NeverFall, BookTurnFits, BookTurnsFit, IsBookLegal, evaluated_between, evaluated_on, AreRowsEvaluated}
pub use Crashes.{StandsForOne, IsBookSafe}
pub use Told.{Saved, ToldBook, versions_of, IsDefined, HoldsBlocks, IsReady, IsKept, is_unsaved, AreFlagged, IsOnDevice, upto_comma, device_name_of, IsOwnDevice, IsWellHeld, trace_of, moment_of, faults_of, LeftOf, IsPublished}
pub use Told.{pulled_records, GoesOn, GivesNone, IsBookHistory}
pub use Saves.{row_of, IsListed, IsSame, IsOther, ListsChanges, ListedUpTo, HasAllChanges, IsSaved, IsBookFaulted}
pub use Refusals.{IsBookToldOf, IsAheadAt, IsPullCause, IsRefreshCause}
pub use InputLists.{lists_at, IsPullOf, ArePullsOf, IsPullRefusal, IsPullAhead, IsListsRefusal}
pub use Openings.{StandsForGroup, BookStaysSame, IsBookOpenedWell, BookBeganWell, IsAhead, SavesAhead, SavesShape, IsBookCause, scan_refusal}
pub use declared.history.GroupHistory.{GroupHistory}
pub use declared.history.GroupOpening.{GroupOpening}
pub use declared.refusal.LoadNo.{LoadNo}
pub use declared.refusal.RefreshNo.{RefreshNo}
pub use declared.refusal.SaveNo.{SaveNo}
pub use declared.turn.Turn.{Turn}

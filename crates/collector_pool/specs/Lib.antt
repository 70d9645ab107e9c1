pub mod Work
pub mod Refusals
pub mod Notes
-- modules that only private functions cite
pub mod SeatedWorkers
pub use Work.{worker_count, IsRowOf, IsQueryOf, IsWorkOf}
pub use Refusals.{refusal_of_take, ending_of_commit, ending_of_turn}
pub use Notes.{MayRefuseRow, RefusesRow, IsRefusedCommit, EndsAtCommit, EndsCollector, IsCollectorNote, asks_snap, AreSnapsOf, DoSnapsRise, AreSnapsSeen, IsSeenNext, AsksGroup, EndsAtQuery, EndsReader, IsReaderNote, IsRefresherNote}
pub use Notes.{IsNoteAt, AreNotesOf, halts, stops_with}
pub use SeatedWorkers.{worker_of, IsRoleOf, IsNoteAs, IsReady, IsSeatedAs, AreSeated, AreDone}
pub use declared.group_turns.TurnNo.{TurnNo}
pub use declared.note.CellNo.{CellNo}
pub use declared.note.Ending.{Ending}
pub use declared.note.WorkerNote.{WorkerNote}
pub use declared.session_worker.Role.{Role}
pub use declared.session_worker.SessionWorker.{SessionWorker}
pub use declared.work.Refresh.{Refresh}

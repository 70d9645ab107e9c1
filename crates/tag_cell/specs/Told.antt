-- The model of a cell, and what its type guarantees.
use Rattle.std.specs.Prelude.{◌≡◌, ◌⊎◌, ℕ, ◌+◌, ◌-◌, ◌*◌, ◌^◌, ◌<◌, ◌≤◌, Bool, true, false, List, [], ◌∷◌, ◌++◌, All, length, take, map, Option, None, Some, nat_eq, nat_le, nat_lt, MatchBool, if◌then◌else◌}
use Rattle.atomic_table.specs.Seated.{TableId}
use Rattle.trend_num.specs.{Rec, Point, TagQuery, TagDef, most_records, InRange}
use Rattle.trend_model.specs.{listed, Raw}
use Rattle.trend_model.specs.State.{State, after}
use Rattle.disk_model.specs.{Rose, LeftSince, Device, moment}
use Rattle.interp_read.specs.{Reply, AreAlike}
use Rattle.crash_recovery.specs.{AllRecover, Logged}
use Rattle.device_layout.specs.{AllFit}
use Rattle.snapshot_table.specs.{Posting, PostsTo}
use Rattle.tag_core.specs.Core.{Core}
use Rattle.tag_cell.specs.declared.entry.Acked.{Acked}
use Rattle.tag_cell.specs.declared.entry.Entry.{Entry}
use Rattle.tag_cell.specs.declared.entry.Entry.TheVariants.{Take, Ask, Commit}
use Rattle.tag_cell.specs.declared.entry.TakeNo.{TakeNo}
use Rattle.tag_cell.specs.declared.entry.TakeNo.TheVariants.{Broken, RoomFull, Full}
use Rattle.tag_cell.specs.declared.history.TagHistory.{TagHistory}
use Rattle.tag_cell.specs.declared.history.TagOpening.{TagOpening}
use Rattle.tag_cell.specs.Tapes.{cell_start, cell_walked, taken, done, last_records, opened, state_after}
use Rattle.tag_cell.specs.Replays.{IsTapeReplayed}
use Rattle.tag_cell.specs.Crashes.{IsCountable, IsSafe, count_written}

-- A cell on a device of this type: the tag's definition, opening, tape and state, the model of its journal, and the
-- number of takes for which its tape has room.
pub record ToldCell (D : Type 0) : Type 0 where
  pub def : TagDef
  pub opening : TagOpening
  pub tape : List Entry
  pub state : State
  pub journal : Logged D
  pub room : ℕ

-- ---- what its type guarantees

-- the core and the content are in step with the tape
pub record IsInStep (def : TagDef) (o : TagOpening) (tape : List Entry) (core : Core) (content : List Rec) : Type 0 where
  pub same_step : core.step ≡ def.step
  pub counted : core.state.summary.taken ≡ o.summary.taken + length (taken tape)
  pub content_is : content ≡ listed core.state.records
  pub in_range : All InRange (taken tape)
  pub fits : AllFit def.step (opened o) (map Raw (taken tape))

-- there is room for each take to come: for its entry, and for two records in the core and in the content
pub record HasRoomForTakes (o : TagOpening) (tape : List Entry) (places takes room core_spare content_spare : ℕ) : Type 0 where
  pub takes_are : takes ≡ length (taken tape)
  pub within : takes ≤ room
  pub core_room : 2 * room ≤ core_spare + 2 * takes
  pub content_room : 2 * room ≤ content_spare + 2 * takes
  pub tape_room : room + length tape ≤ places + takes
  pub small : o.summary.taken < 2 ^ 63

-- the entries from one place on wait to be acknowledged; so many records are durable
pub record Waits (o : TagOpening) (tape : List Entry) (next durable acked : ℕ) : Type 0 where
  pub within : next ≤ length tape
  pub acked_are : acked ≡ o.summary.taken + length (taken (take next tape))
  pub durable_are : durable ≡ last_records (length o.recs.items) (take next tape)

-- the device keeps what is acknowledged, while no call of it has failed
pub record IsKept (def : TagDef) (o : TagOpening) (tape : List Entry) (next : ℕ) (failed : Bool) (d : Device) : Type 0 where
  pub recovers : failed ≡ false → IsCountable o tape
      → AllRecover def d.trace (state_after def.step o (taken (take next tape)))
  pub past : (cell_walked (cell_start o) tape).moment ≤ moment d.trace
  pub opened_before : o.moment ≤ moment d.trace
  pub faultless : failed ≡ false → d.faults ≡ o.faults
  pub cause : failed ≡ true → Rose o.faults d.faults

-- the poster has posted what the tag shows now
pub record IsPosted (board : List TableId) (p : Posting) (s : State) : Type 0 where
  pub here : PostsTo board p
  pub last_is : p.last ≡ record { taken = s.summary.taken; held = s.summary.held }

-- ---- refusals

-- why a cell does not take a value, or None if it takes it
abbrev pub take_refusal : {D : Type 0} → ToldCell D → Option TakeNo
take_refusal s =
    if s.journal.failed then Some Broken
    else (if nat_le s.room (length (taken s.tape)) then Some (RoomFull s.room)
    else (if nat_lt most_records (length s.state.records + 2) then Some (Full (length s.state.records)) else None))

-- ---- what a call changes

-- the cell has taken this value
pub record IsTakenBy {D : Type 0} (collector row : ℕ) (p : Point) (old new : ToldCell D) : Type 0 where
  pub held : Point
  pub held_is : (after old.def.step old.state (Raw p)).summary.held ≡ Some held
  pub changed : new ≡ record old {
    tape = old.tape ++ Take collector row p held (length (after old.def.step old.state (Raw p)).records) ∷ [];
    state = after old.def.step old.state (Raw p);
  }

-- the cell has answered this question with this reply
pub record IsAskedBy {D : Type 0} (reader row : ℕ) (query : TagQuery) (told : Reply) (old new : ToldCell D) : Type 0 where
  pub kept : Reply
  pub alike : AreAlike kept told
  pub changed : new ≡ record old { tape = old.tape ++ Ask reader row query kept ∷ [] }

-- how many takes wait to be acknowledged
abbrev pub takes_waiting : {D : Type 0} → ToldCell D → ℕ
takes_waiting s = s.state.summary.taken - s.journal.acked

-- the oldest waiting values are acknowledged
pub record AreTakesAcknowledged {D : Type 0} (before now : ℕ) (a : Acked) (old new : ToldCell D) : Type 0 where
  pub acked_are : new.journal.acked ≡ old.journal.acked + count_written old.journal.free (takes_waiting old)
  pub told_acked : a.acked ≡ new.journal.acked
  pub told_waiting : a.waiting ≡ takes_waiting new
  pub usable : new.journal.failed ≡ false
  pub later : before < now
  pub same : new ≡ record old { journal = new.journal; tape = old.tape ++ Commit now a.acked ∷ [] }

-- A commit; these are the clocks before it and after it. Either nothing waited, and nothing changed. Or as many values
-- as one commit writes are acknowledged, and an entry states this.
abbrev pub IsCommitted : {D : Type 0} → ℕ → ℕ → Acked → ToldCell D → ToldCell D → Type 0
IsCommitted before now a old new =
    MatchBool (nat_eq (takes_waiting old) 0) ((new ≡ old) × (a ≡ record { acked = old.journal.acked; waiting = 0 }))
    (AreTakesAcknowledged before now a old new)

-- the device of a cell failed; nothing else changed
pub record IsCellFaulted {D : Type 0} (old new : ToldCell D) : Type 0 where
  pub failed : new.journal.failed ≡ true
  pub same_acked : new.journal.acked ≡ old.journal.acked
  pub same : new ≡ record old { journal = new.journal }

-- the records of the opening and of the acknowledged takes
abbrev pub durable_records : {D : Type 0} → ToldCell D → List Rec
durable_records s = (state_after s.def.step s.opening (done s.opening (cell_walked (cell_start s.opening) s.tape))).records

-- ---- what is returned at the end

-- the history of a cell on this device
pub record IsCellHistory (t : TagHistory) (d : Device) : Type 0 where
  pub replayed : IsTapeReplayed t.def t.opening t.tape.items (record { records = t.recs.items; summary = t.summary }) t.acked
  pub safe : IsSafe t.def t.opening t.tape.items (LeftSince d.trace)
  pub past : (cell_walked (cell_start t.opening) t.tape.items).moment ≤ moment d.trace
  pub opened_before : t.opening.moment ≤ moment d.trace
  pub faults_since : (d.faults ≡ t.opening.faults) ⊎ Rose t.opening.faults d.faults

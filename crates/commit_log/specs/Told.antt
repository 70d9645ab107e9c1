-- The model of a log, what its type keeps, and what its calls change.
use Rattle.std.specs.Prelude.{◌≡◌, ◌⊎◌, ℕ, ◌+◌, ◌-◌, ◌≤◌, Bool, true, false, List, [], ◌∷◌, ◌++◌, length, min, take, drop, Option, None, Some, nat_eq, nat_le, if◌then◌else◌}
use Rattle.disk_model.specs.{Rose, Sees, open_byte, IsSettled, LeftSince, Trace, seen, written, moment, Device}
use Rattle.commit_log.specs.declared.history.LogAcked.{LogAcked}
use Rattle.commit_log.specs.declared.history.LogHistory.{LogHistory}
use Rattle.commit_log.specs.declared.history.LogTurn.{LogTurn}
use Rattle.commit_log.specs.declared.history.LogTurn.TheVariants.{Commit}
use Rattle.commit_log.specs.declared.refusal.PutRowNo.{PutRowNo}
use Rattle.commit_log.specs.declared.refusal.PutRowNo.TheVariants.{NoTag, Broken, RoomFull}
use Rattle.commit_log.specs.declared.row.LogRow.{LogRow}
use Rattle.commit_log.specs.Blocks.{log_block_image, log_block_size, most_in_block}
use Rattle.commit_log.specs.Openings.{Stores, most_rows}
use Rattle.commit_log.specs.Tapes.{puts, log_begin, log_walked}
use Rattle.commit_log.specs.Histories.{IsLogLegal, IsLogSafe}

-- The model of a log on a device of type D: the plant's text and its number of tags; the opening's rows, moment and
-- faults; the tape, and how many puts it has room for; how many rows are acknowledged, and where the next block goes;
-- whether a commit failed; and the device.
pub record ToldLog (D : Type 0) : Type 0 where
  pub plant : List ℕ
  pub tags : ℕ
  pub opening : List LogRow
  pub moment : ℕ
  pub faults : ℕ
  pub tape : List LogTurn
  pub room : ℕ
  pub acked : ℕ
  pub end : ℕ
  pub failed : Bool
  pub dev : D

-- ---- what its type keeps

-- there is room for each put that may still come, and there are not too many rows
pub record HasRoomForPuts (opening : List LogRow) (tape : List LogTurn) (places count room : ℕ) : Type 0 where
  pub count_is : count ≡ length (puts tape)
  pub within : count ≤ room
  pub tape_room : room + length tape ≤ places + count
  pub few : length opening + room ≤ most_rows

-- the rows put from place `next` of the tape on wait to be acknowledged
pub record Waits (opening : List LogRow) (tape : List LogTurn) (next acked : ℕ) : Type 0 where
  pub within : next ≤ length tape
  pub acked_are : acked ≡ length opening + length (puts (take next tape))

-- the device has settled, and stores these rows
pub record IsReady (plant : List ℕ) (tags : ℕ) (rows : List LogRow) (end : ℕ) (t : Trace) : Type 0 where
  pub settled : IsSettled t
  pub stores : Stores plant tags rows end (seen t)

-- the device keeps the acknowledged rows as long as no call of it failed
pub record IsKept (plant : List ℕ) (tags : ℕ) (opening : List LogRow) (moment opened_faults : ℕ) (tape : List LogTurn)
    (next end : ℕ) (failed : Bool) (trace : Trace) (ticks faults : ℕ) : Type 0 where
  pub ready : failed ≡ false → IsReady plant tags (opening ++ puts (take next tape)) end trace
  pub past : (log_walked (log_begin (length opening) moment) tape).moment ≤ ticks
  pub opened_before : moment ≤ ticks
  pub faultless : failed ≡ false → faults ≡ opened_faults
  pub cause : failed ≡ true → Rose opened_faults faults

-- ---- what the calls return and change

-- how many rows there are, with the opening's
abbrev pub row_count : {D : Type 0} → ToldLog D → ℕ
row_count s = length s.opening + length (puts s.tape)

-- the rows that wait to be acknowledged, and how many they are
abbrev pub waiting : {D : Type 0} → ToldLog D → List LogRow
waiting s = drop (s.acked - length s.opening) (puts s.tape)

abbrev pub rows_waiting : {D : Type 0} → ToldLog D → ℕ
rows_waiting s = row_count s - s.acked

-- why a log refuses to append a row, or None if it appends it
abbrev pub put_refusal : {D : Type 0} → ToldLog D → LogRow → Option PutRowNo
put_refusal s row =
    if nat_le s.tags row.tag then Some (NoTag s.tags)
    else (if s.failed then Some Broken
    else (if nat_eq (length (puts s.tape)) s.room then Some (RoomFull s.room) else None))

-- The rows that have waited longest are acknowledged, as many as one block may have. The device has them as one block
-- after the others. The tape has the new number of acknowledged rows, and the device's clock.
pub record AreRowsAcknowledged {D : Type 0} (device : D → Device) (a : LogAcked) (old new : ToldLog D) : Type 0 where
  pub rows : List LogRow
  pub rows_are : rows ≡ take most_in_block (waiting old)
  pub acked_are : a.acked ≡ old.acked + min most_in_block (rows_waiting old)
  pub waiting_are : a.waiting ≡ rows_waiting old - min most_in_block (rows_waiting old)
  pub clock : moment (device new.dev).trace ≡ moment (device old.dev).trace + 4
  pub wrote : Sees (device new.dev).trace (written (written (seen (device old.dev).trace) (old.end + 1) (log_block_image old.acked rows ++ 0 ∷ []))
      old.end (open_byte ∷ []))
  pub changed : new ≡ record old {
    tape = old.tape ++ Commit (moment (device new.dev).trace) a.acked ∷ [];
    acked = a.acked;
    end = old.end + log_block_size rows;
    dev = new.dev;
  }

-- a call of its device failed, and nothing else changed
pub record IsLogFaulted {D : Type 0} (old new : ToldLog D) : Type 0 where
  pub failed : new.failed ≡ true
  pub changed : new ≡ record old { failed = true; dev = new.dev }

-- ---- what a log promises of its history

-- The history of a log on a device with this trace, this clock and this number of faults. It is legal. What a crash
-- leaves is safe. No moment is later than the clock.
pub record IsLogHistory (plant : List ℕ) (tags : ℕ) (opening : List LogRow) (moment opened_faults : ℕ) (tape : List LogTurn)
    (acked : ℕ) (trace : Trace) (ticks faults : ℕ) : Type 0 where
  pub legal : IsLogLegal tags opening moment tape acked
  pub safe : IsLogSafe plant tags opening moment tape (LeftSince trace)
  pub past : (log_walked (log_begin (length opening) moment) tape).moment ≤ ticks
  pub opened_before : moment ≤ ticks
  pub few : length opening + length (puts tape) ≤ most_rows
  pub faults_since : (faults ≡ opened_faults) ⊎ Rose opened_faults faults

-- the history of this log
abbrev pub HasHistory : {D : Type 0} → (D → Device) → ToldLog D → Type 0
HasHistory device s =
    IsLogHistory s.plant s.tags s.opening s.moment s.faults s.tape s.acked (device s.dev).trace (moment (device s.dev).trace) (device s.dev).faults

-- the history that was returned at the log's end
abbrev pub IsHandedOut : LogHistory → Trace → ℕ → ℕ → Type 0
IsHandedOut h trace ticks faults =
    IsLogHistory h.plant.items h.tags h.opening.items h.moment h.faults h.tape.items h.acked trace ticks faults

-- What `log` results in: the history of the log, or why no log was opened.
use Rattle.std.specs.Prelude.{◌≡◌, ◌≢◌, ◌⊎◌, ℕ, ◌+◌, ◌-◌, ◌^◌, ◌<◌, ◌≤◌, List, length, Result, Err, IfErr, IfOk, OnOk, String, string_bytes}
use Rattle.std.specs.declared.alloc.Global.{Global}
use Rattle.disk_model.specs.{Rose, Shows, Device, Trace, moment, IsNew}
use Rattle.tag_base.specs.{Base, Plan}
use Rattle.value_rows.specs.{RawRow}
use Rattle.plant_status.specs.declared.status.Status.{Status}
use Rattle.plant_status.specs.declared.status.Status.TheVariants.{BadWords, DeviceFault, Done, WantOfMemory, WriteFault}
use Rattle.plant_status.specs.declared.unit.Unit.{Unit as UnitOf}
use Rattle.plant_status.specs.declared.unit.Unit.TheVariants.{Log as LogUnit}
use Rattle.plant_files.specs.{ToldFiles}
use Rattle.plant_files.specs.PlanRows.{IsCollected, IsCollectingRefusal}
use Rattle.commit_log.specs.{LogHistory, StandsForRows, IsLogOpenedWell, puts, IsHandedOut, ToldLog, log_name}
use Rattle.archive_file.specs.{TextOpensAt}
use Rattle.plant_more.specs.declared.log_note.LogNote.{LogNote}
use Rattle.plant_more.specs.declared.log_known.KnownLog.{KnownLog}
use Rattle.plant_more.specs.declared.log_session.EndedLog.{EndedLog}
use Rattle.plant_more.specs.LogFinding.{ArePutsBegun, AreWhole}
use Rattle.plant_more.specs.LogKnown.{IsAsKnown}
use Rattle.plant_more.specs.LogMaking.{total_rows}
use Rattle.plant_more.specs.LogOpenings.{AreOthersSame, GainsSyncAtMost, TracesByName, IsLogKept, IsLogOpened, IsOpeningRefusal}
use Rattle.plant_more.specs.LogRefusals.{AdmitsForeignPut, AreNotes, ArePutsMade, AreUnstopped, IsOfOpening, IsSettlingRefusal}
use Rattle.plant_more.specs.LogReports.{IsReportRefusal, IsLineToldOf, log_rows}
use Rattle.plant_more.specs.LogTexts.{plant_text}

-- ---- a log at its end

-- this is the history of a log
pub record IsHistoryOfLog {D : Type 0} (l : ToldLog D) (h : LogHistory) : Type 0 where
  pub plant : h.plant.items ≡ l.plant
  pub tags : h.tags ≡ l.tags
  pub opening : h.opening.items ≡ l.opening
  pub moment : h.moment ≡ l.moment
  pub faults : h.faults ≡ l.faults
  pub tape : h.tape.items ≡ l.tape
  pub acked : h.acked ≡ l.acked

-- A log at its end: its device, its history, and the notes of its workers. No worker was stopped, and it has all the
-- rows that these had to put; or there is a refusal. `known` is the copy of its opening. Unless the refusal is a
-- mismatch of the opening, the log still agrees with that copy. Unless the answer admits a put of no file, the log has
-- of each collector only its first rows, in order, and no other put.
pub record IsEnded {D : Type 0} (device : D → Device) (files : List (List RawRow)) (known : KnownLog)
    (before now : ℕ) (e : EndedLog D) : Type 0 where
  pub log : ToldLog D
  pub notes : List LogNote
  pub same_device : e.dev ≡ log.dev
  pub history_is : IsHistoryOfLog log e.history
  pub history : IsHandedOut e.history (device e.dev).trace (moment (device e.dev).trace) (device e.dev).faults
  pub notes_are : AreNotes D files before now notes
  pub ended : OnOk e.answer (AreUnstopped notes)
  pub made : OnOk e.answer (ArePutsMade files log)
  pub faultless : OnOk e.answer ((device e.dev).faults ≡ log.faults)
  pub begun : (AdmitsForeignPut e.answer → ⊥) → ArePutsBegun files log.tape
  pub as_known : (IsOfOpening e.answer → ⊥) → IsAsKnown log known
  pub refused : IfErr e.answer (IsSettlingRefusal (device log.dev).faults files notes known log)

-- ---- no log

-- Why the log of a base is not opened with room for so many rows: opening its device failed, or there was no memory.
-- Only the log's device may have changed. A crash at any moment since leaves of it an image that a crash might have
-- left before, or one that stands for the same rows. If it was not new, it has gained a sync at most, unless the status
-- reports a device fault.
pub record IsUnopened (base : Base) (rows : ℕ) (old new : TracesByName) (before now : ℕ) (why : Status) : Type 0 where
  pub cause : IsOpeningRefusal (plant_text base.tags.items) (length base.tags.items) rows (old log_name) before now why
      ⊎ (why ≡ WantOfMemory)
  pub kept : IsLogKept (plant_text base.tags.items) (length base.tags.items) old new
  pub synced : why ≢ DeviceFault LogUnit → GainsSyncAtMost (old log_name) (new log_name)

-- Why no collector began. Either a file is refused, and no device has changed; or the log is not opened.
pub data IsUnlogged (name plan_name : List ℕ) (told : ToldFiles) (old new : TracesByName) (before now : ℕ) (why : Status) : Type 0 where
  OfFiles : IsCollectingRefusal name plan_name told why → ((n : List ℕ) → new n ≡ old n)
      → IsUnlogged name plan_name told old new before now why
  OfOpening : (base : Base) (plan : Plan) (rows : List (List RawRow)) → IsCollected name plan_name told base plan rows
      → IsUnopened base (total_rows rows) old new before now why → IsUnlogged name plan_name told old new before now why

-- ---- a log

-- A log that is done. Of each collector the rows of its file were put, in order, each once, and no others. All rows are
-- acknowledged. The text has a line for each tag, computed from its points in the opening and in the puts.
pub record IsDone (base : Base) (rows : List (List RawRow)) (h : LogHistory) (text : List ℕ) : Type 0 where
  pub whole : AreWhole rows h.tape.items
  pub acknowledged : length h.opening.items + length (puts h.tape.items) ≤ h.acked
  pub told : IsLineToldOf base.tags.items (log_rows h) text

-- The log is that of the base, and its opening has the rows for which its device stood before. The opening ends one call
-- after those that the device had made, or, if the device was new, a few more (`TextOpensAt`).
pub record IsLogOpenedAs (base : Base) (before : Trace) (h : LogHistory) : Type 0 where
  pub plant : h.plant.items ≡ plant_text base.tags.items
  pub tags : h.tags ≡ length base.tags.items
  pub opened_at : TextOpensAt IsNew before h.moment
  pub opening : Shows before (λ c. StandsForRows (plant_text base.tags.items) (length base.tags.items) c h.opening.items)

-- Why a log is not done, if its device has counted so many faults. Either it was refused after its workers had ended. Or only its report is missing: there was no
-- memory, or a tag could get too many records.
pub data IsUndone {D : Type 0} (faults : ℕ) (base : Base) (rows : List (List RawRow)) (notes : List LogNote) (known : KnownLog)
    (l : ToldLog D) (h : LogHistory) (why : Status) : Type 0 where
  OfSettling : IsSettlingRefusal faults rows notes known l why → IsUndone faults base rows notes known l h why
  OfReport : AreUnstopped notes → ArePutsMade rows l → IsReportRefusal base.tags.items (log_rows h) why
      → IsUndone faults base rows notes known l h why

-- a count has risen, or is the largest value of its type
abbrev pub HasLogCountRisen : ℕ → ℕ → Type 0
HasLogCountRisen before now = (before < now) ⊎ (now ≡ 2 ^ 64 - 1)

-- The store's fault count before a log is opened, and after its device is given back. It never falls. It has risen, or
-- is the largest value of its type, if the answer reports a device fault. Unless the answer is a mismatch of the
-- opening, it rises by one at most. If there is a text, it has not risen.
pub record CountsLog (answer : Result (String Global) Status) (before now : ℕ) : Type 0 where
  pub later : before ≤ now
  pub told : IfErr answer (λ why. (unit : UnitOf) → why ≡ DeviceFault unit → HasLogCountRisen before now)
  pub once : (IsOfOpening answer → ⊥) → (now ≡ before) ⊎ Rose before now
  pub faultless : OnOk answer (now ≡ before)

-- A log of a base, into which collectors put these rows, and what came of it.
-- It was opened on the device of its name, with room for all the rows, and given back there. No other device has
-- changed. If the device was not new, its opening added one sync to the device's calls, and nothing else. `known` is the
-- copy of that opening, to which a mismatch of the opening is told. The log's history is legal. A
-- crash at any moment since its opening leaves of the device the opening's rows followed by the oldest puts, with all
-- acknowledged rows among them.
-- Whatever the answer is, a crash until the opening ended left of the device what it might have left before, or what stands
-- for the rows of the history's opening. Unless the answer is a mismatch of the opening, its opening has the rows for which
-- the device stood. Unless the answer
-- admits a put of no file, the log has of each collector only its first rows, in order, and no other put. The log is
-- done, or there is a cause. If it is done, no pass stopped a worker, and each worker found memory. The store counted
-- `before` faults before it, and counts `now` after it.
pub record IsRun {D : Type 0} (device : D → Device) (base : Base) (rows : List (List RawRow))
    (old new : TracesByName) (before now : ℕ) (stops_before stops_now : ℕ) (answer : Result (String Global) Status) (h : LogHistory)
    : Type 0 where
  pub first : ToldLog D
  pub opened : IsLogOpened device (plant_text base.tags.items) (length base.tags.items) (total_rows rows) (old log_name) first
  pub known : KnownLog
  pub kept : IsAsKnown first known
  pub log : ToldLog D
  pub notes : List LogNote
  pub history_is : IsHistoryOfLog log h
  pub given : new log_name ≡ (device log.dev).trace
  pub history : IsHandedOut h (new log_name) (moment (device log.dev).trace) (device log.dev).faults
  pub opened_as : (IsOfOpening answer → ⊥) → IsLogOpenedAs base (old log_name) h
  pub since : IsLogOpenedWell h.plant.items h.tags h.opening.items h.moment (old log_name) (new log_name)
  pub notes_are : AreNotes D rows stops_before stops_now notes
  pub begun : (AdmitsForeignPut answer → ⊥) → ArePutsBegun rows h.tape.items
  pub ended : OnOk answer (AreUnstopped notes)
  pub done : IfOk answer (λ text. IsDone base rows h (string_bytes text))
  pub undone : IfErr answer (IsUndone (device log.dev).faults base rows notes known log h)
  pub others : AreOthersSame old new
  pub counts : before < 2 ^ 64 → CountsLog answer before now

-- the log of the plan in one file over the base in another, and what came of it
pub record IsLogged {D : Type 0} (device : D → Device) (name plan_name : List ℕ) (told : ToldFiles)
    (old new : TracesByName) (before now : ℕ) (stops_before stops_now : ℕ) (answer : Result (String Global) Status) (h : LogHistory)
    : Type 0 where
  pub base : Base
  pub plan : Plan
  pub rows : List (List RawRow)
  pub collected : IsCollected name plan_name told base plan rows
  pub run : IsRun device base rows old new before now stops_before stops_now answer h

-- The command's answer for a log that ended so. If the log is done, it is a line for each tag, or why these cannot be
-- made. Otherwise it is the log's own refusal.
pub record IsLogReported (base : Base) (h : LogHistory) (came : Result Unit Status) (told : Result (String Global) Status) : Type 0 where
  pub text : OnOk came (IfOk told (λ text. IsLineToldOf base.tags.items (log_rows h) (string_bytes text)))
  pub untold : OnOk came (IfErr told (IsReportRefusal base.tags.items (log_rows h)))
  pub refused : IfErr came (λ why. told ≡ Err why)

-- ---- what this command never returns as a refusal

-- these statuses are no refusals of this command
abbrev pub IsOfOthers : Status → Type 0
IsOfOthers Done = Unit {0}
IsOfOthers BadWords = Unit {0}
IsOfOthers WriteFault = Unit {0}
IsOfOthers other = ⊥

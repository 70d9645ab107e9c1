-- What a drill comes to: its session, or why there is none.
use Rattle.std.specs.Prelude.{◌≡◌, ◌≢◌, ◌⊎◌, ℕ, ◌/◌, ◌<◌, List, [], ◌++◌, All, length, replicate, slice_get, slice_index_or, None, Some, Result, Ok, Err, IfErr, IfOk, OnOk, String, string_bytes, ⊤}
use Rattle.std.specs.List.{AllZip}
use Rattle.std.specs.declared.alloc.Global.{Global}
use Rattle.trend_num.specs.{TagDef}
use Rattle.trend_model.specs.State.{Stands}
use Rattle.disk_model.specs.{DiskState, handed_as, empty_trace, Device}
use Rattle.branded_disk.specs.{branded, told_of}
use Rattle.tag_base.specs.{Base, GroupDef}
use Rattle.tag_cell.specs.{TagHistory, opened as opened_state, ToldCell as Cell}
use Rattle.plant_store.specs.Tags.{tag_trace_of}
use Rattle.calc_refresh.specs.{lists_of}
use Rattle.group_book.specs.{GroupHistory, ToldBook as Book}
use Rattle.plant_store.specs.Groups.{DeviceTraces, group_parts_of, group_definition_text}
use Rattle.plant_status.specs.declared.status.Status.{Status}
use Rattle.plant_status.specs.declared.status.Status.TheVariants.{DeviceFault, WantOfMemory}
use Rattle.value_rows.specs.{RawRow}
use Rattle.session_audit.specs.Agendas.{phase_item}
use Rattle.session_audit.specs.{tag_rows, takes_mismatch, HaveFirstPulls, takes_at_pull}
use Rattle.session_report.specs.{Session}
use Rattle.run_command.specs.declared.work.Given.{Given}
use Rattle.collector_pool.specs.{WorkerNote}
use Rattle.collector_pool.specs.declared.work.Work.{Work}
use Rattle.run_command.specs.Causes.{IsSessionCause}
use Rattle.run_command.specs.Copies.{AreCopied, IsChecked, MayBeUncopied}
use Rattle.run_command.specs.Endings.{HaveAllEnded}
use Rattle.run_command.specs.Headline.{IsDoneSo, IsMixed, IsUpToDate}
use Rattle.run_command.specs.Sessions.{AreNotesOfAll, IsPlannedWork}
use Rattle.run_command.specs.Units.{AreGroupsSound, AreUnitsOpened, AtEachGroup, IsBegun, IsTagSound}
use Rattle.run_command.specs.Refusals.{AdmitsForeign, IsOfOpening}
use Rattle.run_command.specs.Runs.{IsSessionHeld, IsUnopened}
use Rattle.run_command.specs.DrillPlant.{IsDrillGroup, drill_tags}
use Rattle.run_command.specs.DrillRows.{drill_rows_of}
use Rattle.run_command.specs.DrillPhases.{AreAllOrNone, AreNotesOfAllBoth, AreNotesOfBoth, IsUndoneOfBoth}
use Rattle.run_command.specs.Steps.{AreBegun}

-- ---- the plant

-- the base of a drill with so many tags
pub record IsDrillBase (tags : ℕ) (base : Base) : Type 0 where
  pub tags_are : base.tags.items ≡ drill_tags tags
  pub one_group : length base.groups.items ≡ 1
  pub group : All (IsDrillGroup tags) base.groups.items

-- the devices of a new store in memory: each name has one that holds nothing
abbrev pub fresh_devices : DeviceTraces
fresh_devices name = empty_trace

-- a device in memory fails only for want of memory, so the drill reports that
abbrev pub drill_status : Status → Status
drill_status (DeviceFault unit) = WantOfMemory
drill_status why = why

abbrev pub drill_answer : Result (String Global) Status → Result (String Global) Status
drill_answer (Ok text) = Ok text
drill_answer (Err why) = Err (drill_status why)

-- ---- the session

-- why it has no report: the refusal of one of the phases, or of what was pulled between them, and what is reported of it
pub record IsDrillUndone {D : Type 0} (base : Base) (first second : Given) (opened : List (Cell D)) (opened_books : List (Book D))
    (cells : List (Cell D)) (books : List (Book D)) (s : Session) (why : Status) : Type 0 where
  pub came : Status
  pub undone : IsUndoneOfBoth first second opened opened_books cells books s.workers.items came
  pub cause : Status
  pub checked : IsChecked base s came cause
  pub told : why ≡ drill_status cause

-- A session of two phases over a base, and what came of it. The passes counted as many stops as workers were stopped. If
-- there is a text, there is a note of each worker, and each tag had as many takes acknowledged as it has rows in the first
-- phase, when a group first pulled from it. Unless the answer admits a take of no file, each tape shows only first rows of
-- its last phase. There is a report, or the answer has a cause.
pub record IsRunInPhases {D : Type 0} (device : D → Device) (base : Base) (first second : Given)
    (old new : DeviceTraces) (before now stops_before stops_now : ℕ) (answer : Result (String Global) Status) (s : Session)
    : Type 0 where
  pub held : IsSessionHeld device base second old new before now answer s
  pub notes : AreNotesOfBoth first.work second.work stops_before stops_now s.workers.items
  pub ran : OnOk answer (AreNotesOfAllBoth first.work second.work s.workers.items)
  pub apart : OnOk answer (HaveFirstPulls first.rooms.items held.cells)
  pub begun : (AdmitsForeign answer → ⊥) → AreBegun first held.cells held.books ⊎ AreBegun second held.cells held.books
  pub undone : IfErr answer (IsDrillUndone base first second held.opened held.opened_books held.cells held.books s)

-- a device in memory, as a proof sees it
abbrev pub device_seen : DiskState → Device
device_seen d = record { handed = handed_as d.name; trace = d.trace; faults = d.faults }

-- the same of a store that had no device when the command began
abbrev pub memory_device : DiskState → Device
memory_device = branded device_seen (told_of fresh_devices)

-- ---- what is promised of it

-- a tag is one of the drill's; its opening is what a new device recovers, a tag that has taken nothing
pub record IsTagNew (def : TagDef) (t : TagHistory) : Type 0 where
  pub def_is : t.def ≡ def
  pub nothing : Stands (record { tuning = def.tuning; step = def.step }) [] (opened_state t.opening)

-- a group is one of the drill's, and was opened with no record of its inputs and no row
pub record IsGroupNew (i : ℕ) (d : GroupDef) (g : GroupHistory) : Type 0 where
  pub number : g.group ≡ i
  pub def_is : g.def ≡ group_parts_of d
  pub text : g.text.items ≡ group_definition_text d
  pub versions : g.opening.versions.items ≡ replicate (length d.inputs.items) 0
  pub rows : lists_of g.opening.rows.items ≡ replicate (length d.calcs.calcs) []

-- each tag and each group is new
pub record AreNew (base : Base) (s : Session) : Type 0 where
  pub tags : AllZip IsTagNew base.tags.items s.tags.items
  pub groups : AtEachGroup base s IsGroupNew

-- each tag had as many takes acknowledged as the files have rows of it, when a group first pulled from it
abbrev pub ArePhasesApart : List (List RawRow) → Session → Type 0
ArePhasesApart rows s = (tag : ℕ) (t : TagHistory) → tag < length s.tags.items
    → takes_at_pull (slice_index_or s.tags.items tag t).opening (slice_index_or s.tags.items tag t).tape.items ≡ tag_rows tag rows

-- a tag had another number; the status has both, and those before it had theirs
pub record IsPulledElsewhere (rows : List (List RawRow)) (s : Session) (why : Status) : Type 0 where
  pub tag : ℕ
  pub its : TagHistory
  pub there : slice_get s.tags.items tag ≡ Some its
  pub told : why ≡ takes_mismatch tag (takes_at_pull its.opening its.tape.items) (tag_rows tag rows)
  pub differ : takes_at_pull its.opening its.tape.items ≢ tag_rows tag rows
  pub front : (k : ℕ) (t : TagHistory) → k < tag
      → takes_at_pull (slice_index_or s.tags.items k t).opening (slice_index_or s.tags.items k t).tape.items ≡ tag_rows k rows

-- Why a drill has no report. The first phase is not done, and no worker of the second has begun. The second is not done, and
-- all workers of the first have ended by themselves. Both are done, all workers have ended by themselves, and a tag was
-- first pulled when it had acknowledged another number of takes. Memory for the report was wanting.
pub data IsPhaseCause (number tags events : ℕ) (base : Base) (first second : Work) (notes : List WorkerNote) (s : Session) (why : Status)
    : Type 0 where
  InFirst : AreAllOrNone first notes
      → IsSessionCause (phase_item 0) (λ group. 0) base fresh_devices (drill_rows_of number tags 0 (events / 2)) [] ⊤ notes s why
      → IsPhaseCause number tags events base first second notes s why
  InSecond : (front more : List WorkerNote) → notes ≡ front ++ more → AreNotesOfAll first front → HaveAllEnded front
      → IsSessionCause (phase_item (events / 2)) (λ group. 1) base fresh_devices (drill_rows_of number tags 0 events) [] ⊤ more s why
      → IsPhaseCause number tags events base first second notes s why
  InPull : AreNotesOfAllBoth first second notes → HaveAllEnded notes
      → IsMixed (phase_item (events / 2)) base (drill_rows_of number tags 0 events) [] s
      → AtEachGroup base s (λ i d g. IsUpToDate d 1 s g) → IsPulledElsewhere (drill_rows_of number tags 0 (events / 2)) s why
      → IsPhaseCause number tags events base first second notes s why
  InReport : why ≡ WantOfMemory → IsPhaseCause number tags events base first second notes s why

-- why a drill has no report, as it reports the cause
pub record IsDrillCause (number tags events : ℕ) (base : Base) (first second : Work) (s : Session) (why : Status) : Type 0 where
  pub cause : Status
  pub told : why ≡ drill_status cause
  pub phase : IsPhaseCause number tags events base first second s.workers.items s cause

-- Whatever the answer is, each tag and each group is sound, and so is what a crash leaves of its device. Each was new,
-- unless the answer reports that an opening has changed. Unless it admits a take of no file, each tape shows only first
-- rows of one of the phases. If there is a text, the session is done and the text is its report: each tag has taken all
-- events of its collector, numbered from 1 in each phase, and all are acknowledged; the group is up to date, was
-- refreshed twice, and was saved after that; it first pulled just the first phase; there is a note of each worker. Otherwise
-- there is a cause; unless the answer is a mismatch or want of memory, the group has first records of its inputs' tags. The
-- passes counted each stopped worker, up to 2^64 - 1.
pub record IsDrilled (number tags events stops_before stops_now : ℕ) (answer : Result (String Global) Status) (s : Session)
    : Type 0 where
  pub base : Base
  pub devices : DeviceTraces
  pub base_is : IsDrillBase tags base
  pub tags_are : AllZip (λ def t. IsTagSound def t (tag_trace_of fresh_devices def) (tag_trace_of devices def)) base.tags.items s.tags.items
  pub groups : AreGroupsSound base fresh_devices devices s
  pub opened_as : (IsOfOpening answer → ⊥) → AreUnitsOpened base fresh_devices s
  pub new : (IsOfOpening answer → ⊥) → AreNew base s
  pub begun : (AdmitsForeign answer → ⊥) → IsBegun (phase_item 0) (drill_rows_of number tags 0 (events / 2)) [] s
      ⊎ IsBegun (phase_item (events / 2)) (drill_rows_of number tags 0 events) [] s
  pub done : IfOk answer (λ text. IsDoneSo (phase_item (events / 2)) (λ group. 1) base (drill_rows_of number tags 0 events) [] s
      (string_bytes text))
  pub apart : OnOk answer (ArePhasesApart (drill_rows_of number tags 0 (events / 2)) s)
  pub first : Work
  pub second : Work
  pub first_is : IsPlannedWork 0 (drill_rows_of number tags 0 (events / 2)) [] [] first
  pub second_is : IsPlannedWork (events / 2) (drill_rows_of number tags 0 events) [] [] second
  pub cause : IfErr answer (IsDrillCause number tags events base first second s)
  pub copied : IfErr answer (λ why. (MayBeUncopied why → ⊥) → AtEachGroup base s (λ i d g. AreCopied s d g))
  pub notes : AreNotesOfBoth first second stops_before stops_now s.workers.items
  pub ran : OnOk answer (AreNotesOfAllBoth first second s.workers.items)
  pub no_log : s.log ≡ None

-- ---- no session

-- why the devices of a base are not open, as a drill reports it
pub record IsDrillUnopened (base : Base) (old new : DeviceTraces) (before now : ℕ) (why : Status) : Type 0 where
  pub cause : Status
  pub told : why ≡ drill_status cause
  pub unopened : IsUnopened base old new before now cause

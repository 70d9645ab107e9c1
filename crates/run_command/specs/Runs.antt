-- What a run of a plan comes to: its session, or why there is none.
use Rattle.std.specs.Prelude.{◌≡◌, ◌≢◌, ℕ, ◌^◌, ◌<◌, ◌≤◌, List, length, map, None, Some, Result, OnOk, IfErr, IfOk, IsErrAnd, String, string_bytes, slice_index_or}
use Rattle.std.specs.List.{AllZip}
use Rattle.std.specs.declared.alloc.Global.{Global}
use Rattle.trend_num.specs.{most_stored}
use Rattle.disk_model.specs.{Trace, moment, Device}
use Rattle.tag_base.specs.{Base, GroupDef, Plan, Refresher}
use Rattle.value_rows.specs.{Query, RawRow}
use Rattle.plant_status.specs.declared.status.Status.{Status}
use Rattle.plant_status.specs.{FileId}
use Rattle.plant_status.specs.declared.status.Status.TheVariants.{ReadFault, WantOfMemory}
use Rattle.plant_files.specs.{ToldFiles}
use Rattle.plant_files.specs.PlanRows.{IsPlanned, IsPlanningRefusal}
use Rattle.calc_refresh.specs.{lists_of}
use Rattle.tag_cell.specs.{ToldCell as Cell}
use Rattle.group_book.specs.{GroupHistory, IsBookOpenedWell, IsBookHistory as IsGroupHistory, ToldBook as Book}
use Rattle.branded_disk.specs.{told_of}
use Rattle.collector_pool.specs.{WorkerNote}
use Rattle.session_audit.specs.{Kept, KeptGroup, IsCellCopied}
use Rattle.session_audit.specs.Pulls.{ArePulled}
use Rattle.plant_store.specs.{AreCellsOpened, records_opened, device_names_of, CountsClosed, AreRestSame, IsPlantRefusal, cell_records_in}
use Rattle.plant_store.specs.CellClosings.{AreHistoriesAt, AreHistoriesOf}
use Rattle.plant_store.specs.Tags.{AllStaySame}
use Rattle.plant_store.specs.Groups.{AllStaySame as AllGroupsStaySame, AreBooksOpened, DeviceTraces, group_parts_of, group_definition_text, group_trace_at}
use Rattle.plant_store.specs.BookEndings.{AreHistoriesOf as AreGroupHistoriesOf}
use Rattle.session_report.specs.{Session, report}
use Rattle.run_command.specs.declared.work.Given.{Given}
use Rattle.session_audit.specs.BookOpenings.{IsBookCopied}
use Rattle.run_command.specs.Copies.{IsChecked}
use Rattle.run_command.specs.Endings.{HaveAllEnded}
use Rattle.run_command.specs.Refusals.{AdmitsForeign, IsOfOpening, IsSettlingRefusal}
use Rattle.run_command.specs.Sessions.{AreNotes, AreNotesOfAll, IsPlannedWork}
use Rattle.run_command.specs.Steps.{AreBegun, AreGivenFor, AreStepsMade}

-- no device has changed
abbrev pub AreDevicesUntouched : DeviceTraces → DeviceTraces → Type 0
AreDevicesUntouched old new = (n : List ℕ) → new n ≡ old n

-- ---- no session

-- No device but those of a base's tags and groups has changed. A crash at any moment since leaves of each of these an
-- image that a crash might have left before, or one that recovers or stands for the same, or, of a tag, one that
-- recovers that state as it is opened.
pub record AreDevicesKept (base : Base) (old new : DeviceTraces) : Type 0 where
  pub tags : AllStaySame base.tags.items old new
  pub groups : AllGroupsStaySame base.groups.items old new
  pub others : AreRestSame base old new

-- why the devices of a base are not open: a tag or a group was not opened, or memory was wanting before
pub data IsUnopened (base : Base) (old new : DeviceTraces) (before now : ℕ) (why : Status) : Type 0 where
  OfPlant : IsPlantRefusal base old new before now why → AreDevicesKept base old new → IsUnopened base old new before now why
  OfWant : why ≡ WantOfMemory → AreDevicesUntouched old new → IsUnopened base old new before now why

-- the status is no read fault of a file
abbrev pub IsNoReadFault : Status → Type 0
IsNoReadFault why = (which : FileId) → why ≢ ReadFault which

-- why there is no session: a file is refused or memory was wanting for it, or the devices are not opened
pub data IsUnheld (name plan_name : List ℕ) (told : ToldFiles) (old new : DeviceTraces) (before now : ℕ) (why : Status) : Type 0 where
  OfFiles : IsPlanningRefusal name plan_name told why → AreDevicesUntouched old new
      → IsUnheld name plan_name told old new before now why
  OfOpening : (base : Base) (plan : Plan) (rows : List (List RawRow)) (queries : List (List Query))
      → IsPlanned name plan_name told base plan rows queries → IsUnopened base old new before now why
      → IsUnheld name plan_name told old new before now why

-- ---- a session

-- The work of a phase over a base: the collectors have these rows, the readers these queries, and the refreshers these
-- turns. So many phases came before, in which each collector took so many of its rows.
pub record IsWorkIn (base : Base) (earlier phases : ℕ) (rows : List (List RawRow)) (queries : List (List Query))
    (refreshers : List Refresher) (g : Given) : Type 0 where
  pub its : IsPlannedWork earlier rows queries refreshers g.work
  pub phases_are : g.phases ≡ phases
  pub inputs : lists_of g.inputs.items ≡ map (λ d. d.inputs.items) base.groups.items
  pub sized : AreGivenFor (length base.tags.items) (length base.groups.items) g

-- the devices of a base's tags and groups were opened as these cells and books; all tags together had not too many
-- records
pub record AreUnitsOpen {D : Type 0} (device : D → Device) (base : Base) (old : DeviceTraces)
    (cells : List (Cell D)) (books : List (Book D)) : Type 0 where
  pub tags : AreCellsOpened device base.tags.items old cells
  pub groups : AreBooksOpened device base.groups.items (cell_records_in cells) old books
  pub as_many_tags : length cells ≡ length base.tags.items
  pub as_many_groups : length books ≡ length base.groups.items
  pub few : records_opened cells ≤ most_stored

-- each book has the definition of the group in its place
abbrev pub AreDefined : {D : Type 0} → List GroupDef → List (Book D) → Type 0
AreDefined {D} groups books = (i : ℕ) (g : GroupDef) (b : Book D) → i < length books
    → (slice_index_or books i b).def ≡ group_parts_of (slice_index_or groups i g)

-- A history is that of a group's device, which was so when the command began and is so now. It was opened well from then on.
pub record IsGroupHistoryAt (before now : Trace) (g : GroupHistory) : Type 0 where
  pub faults : ℕ
  pub is : IsGroupHistory g (Some now) (moment now) faults
  pub begun : IsBookOpenedWell g.text.items g.def g.opening before now

-- each history of a group that has the group's text is that of the device that a store had and has under the group's name
pub record AreGroupHistoriesAt (groups : List GroupDef) (before now : DeviceTraces) (histories : List GroupHistory) : Type 0 where
  pub each : (i : ℕ) (d : GroupDef) (g : GroupHistory) → i < length histories → (slice_index_or histories i g).text.items ≡ group_definition_text (slice_index_or groups i d)
      → IsGroupHistoryAt (group_trace_at before (slice_index_or groups i d)) (group_trace_at now (slice_index_or groups i d))
      (slice_index_or histories i g)

-- The histories of a session are those of these cells and books. Each is that of the device under its name, and was opened
-- well from what that device was before. No device
-- but those of the base's tags and groups has changed, and no log was written.
pub record IsOver {D : Type 0} (device : D → Device) (base : Base) (old new : DeviceTraces)
    (cells : List (Cell D)) (books : List (Book D)) (s : Session) : Type 0 where
  pub tags : AreHistoriesOf device cells s.tags.items
  pub groups : AreGroupHistoriesOf device books s.groups.items
  pub as_many_tags : length cells ≡ length base.tags.items
  pub as_many_groups : length books ≡ length base.groups.items
  pub devices : AreHistoriesAt (told_of old) new (device_names_of base.tags.items) s.tags.items
  pub group_devices : AreGroupHistoriesAt base.groups.items old new s.groups.items
  pub others : AreRestSame base old new
  pub no_log : s.log ≡ None

-- a cell has the definition of another one, and the same opening
pub record IsContinued {D : Type 0} (first last : Cell D) : Type 0 where
  pub def : last.def ≡ first.def
  pub summary : last.opening.summary ≡ first.opening.summary
  pub records : last.opening.recs.items ≡ first.opening.recs.items
  pub moment : last.opening.moment ≡ first.opening.moment
  pub faults : last.opening.faults ≡ first.opening.faults

-- a book has the group of another one, and the same opening
pub record IsContinuedGroup {D : Type 0} (first last : Book D) : Type 0 where
  pub group : last.group ≡ first.group
  pub def : last.def ≡ first.def
  pub text : last.text ≡ first.text
  pub versions : last.opening.versions.items ≡ first.opening.versions.items
  pub rows : lists_of last.opening.rows.items ≡ lists_of first.opening.rows.items
  pub moment : last.opening.moment ≡ first.opening.moment
  pub faults : last.opening.faults ≡ first.opening.faults

-- A session that is done: no worker was stopped, each tape has exactly what its collectors, readers and refreshers had
-- to do, each group has what it pulled of its tags, and the text is its report.
pub record IsDone {D : Type 0} (base : Base) (g : Given) (cells : List (Cell D)) (books : List (Book D)) (s : Session)
    (text : List ℕ) : Type 0 where
  pub ended : HaveAllEnded s.workers.items
  pub made : AreStepsMade g cells books
  pub pulled : ArePulled (lists_of g.inputs.items) cells books
  pub same : text ≡ report base (length g.work.collectors.items) (lists_of g.work.readers.items) s

-- why a session is not done: what its workers left is refused by a comparison with copies of the openings, or memory is
-- wanting
pub data IsUndone {D : Type 0} (g : Given) (opened : List (Cell D)) (opened_books : List (Book D)) (cells : List (Cell D))
    (books : List (Book D)) (notes : List WorkerNote) (why : Status) : Type 0 where
  OfSettling : (known : List Kept) (known_groups : List KeptGroup) → AllZip IsCellCopied opened known → AllZip IsBookCopied opened_books known_groups
      → IsSettlingRefusal g notes known known_groups cells books why
      → IsUndone g opened opened_books cells books notes why
  OfNone : why ≡ WantOfMemory → IsUndone g opened opened_books cells books notes why

-- The answer of a session that came to this: its report, if it is done and there is memory for it; otherwise, why there
-- is none. A refusal is checked before it is reported.
pub record IsReported (base : Base) (g : Given) (s : Session) (came : Result Unit Status) (told : Result (String Global) Status) : Type 0 where
  pub text : OnOk came (IfOk told (λ text. string_bytes text
      ≡ report base (length g.work.collectors.items) (lists_of g.work.readers.items) s))
  pub want : OnOk came (IfErr told (λ why. why ≡ WantOfMemory))
  pub refused : IfErr came (λ why. IsErrAnd told (IsChecked base s why))

-- A session over a base, and what came of it. The devices were opened, and are given back. Each cell and book is the
-- one that was opened, unless the answer reports that an opening has changed. If there is a text, the session is done.
-- The store counts the faults of the devices: so many before, and so many now.
pub record IsSessionHeld {D : Type 0} (device : D → Device) (base : Base) (g : Given) (old new : DeviceTraces)
    (before now : ℕ) (answer : Result (String Global) Status) (s : Session) : Type 0 where
  pub opened : List (Cell D)
  pub opened_books : List (Book D)
  pub cells : List (Cell D)
  pub books : List (Book D)
  pub opening : AreUnitsOpen device base old opened opened_books
  pub over : IsOver device base old new cells books s
  pub counts : before < 2 ^ 64 → CountsClosed device cells books before now
  pub same_tags : (IsOfOpening answer → ⊥) → AllZip IsContinued opened cells
  pub same_groups : (IsOfOpening answer → ⊥) → AllZip IsContinuedGroup opened_books books
  pub done : IfOk answer (λ text. IsDone base g cells books s (string_bytes text))

-- why a session has no report: why it is not done, and what it reports of that
pub record IsRefusedSo {D : Type 0} (base : Base) (g : Given) (opened : List (Cell D)) (opened_books : List (Book D)) (cells : List (Cell D))
    (books : List (Book D)) (s : Session) (why : Status) : Type 0 where
  pub came : Status
  pub undone : IsUndone g opened opened_books cells books s.workers.items came
  pub checked : IsChecked base s came why

-- A session of this work over a base, and what came of it. The passes counted as many stops as workers were stopped.
-- Unless the answer admits a take or a question of no file, there is a note of each worker, and each tape shows only
-- first rows of the files. The session is done, or the answer has a cause.
pub record IsRun {D : Type 0} (device : D → Device) (base : Base) (g : Given) (old new : DeviceTraces)
    (before now : ℕ) (stops_before stops_now : ℕ) (answer : Result (String Global) Status) (s : Session) : Type 0 where
  pub held : IsSessionHeld device base g old new before now answer s
  pub notes : AreNotes g.work stops_before stops_now s.workers.items
  pub ran : (AdmitsForeign answer → ⊥) → AreNotesOfAll g.work s.workers.items
  pub begun : (AdmitsForeign answer → ⊥) → AreBegun g held.cells held.books
  pub undone : IfErr answer (IsRefusedSo base g held.opened held.opened_books held.cells held.books s)

-- The promise of a session: what holds of all of it, and of each of its tags and groups.
use Rattle.std.specs.Prelude.{◌≡◌, ℕ, None, ◌^◌, ◌<◌, ◌≤◌, List, length, map, slice_index, slice_index_or, Option, Result, Ok, Err, IfErr, IfOk, String, string_bytes}
use Rattle.std.specs.List.{AllZip}
use Rattle.std.specs.declared.alloc.Global.{Global}
use Rattle.trend_num.specs.{TagDef}
use Rattle.tag_cell.specs.{TagHistory}
use Rattle.calc_refresh.specs.{lists_of}
use Rattle.group_book.specs.{GroupHistory}
use Rattle.plant_store.specs.Groups.{DeviceTraces}
use Rattle.tag_base.specs.{Base, GroupDef, Plan}
use Rattle.plant_store.specs.Tags.{tag_trace_of}
use Rattle.value_rows.specs.{Query, RawRow}
use Rattle.plant_status.specs.declared.status.Status.{Status}
use Rattle.plant_status.specs.declared.status.Status.TheVariants.{DeviceFault}
use Rattle.plant_status.specs.declared.unit.Unit.{Unit as Device}
use Rattle.plant_store.specs.CellClosings.{HasRisen}
use Rattle.plant_files.specs.{ToldFiles}
use Rattle.session_audit.specs.{Item, pulled, reached}
use Rattle.session_audit.specs.Agendas.{take_item}
use Rattle.plant_files.specs.PlanRows.{IsPlanned}
use Rattle.session_report.specs.{Session, report}
use Rattle.run_command.specs.Copies.{AreCopied, MayBeUncopied}
use Rattle.run_command.specs.Endings.{HaveAllEnded}
use Rattle.run_command.specs.Refusals.{AdmitsForeign, IsOfOpening}
use Rattle.run_command.specs.Units.{AreGroupsSound, AreUnitsOpened, AtEachGroup, IsBegun, IsGroupRefreshed, IsRecorded, IsTagSound, tag_records_of, turns_in}
use Rattle.run_command.specs.Causes.{IsSessionCause}
use Rattle.run_command.specs.Sessions.{AreNotes, AreNotesOfAll, IsPlannedWork}
use Rattle.collector_pool.specs.declared.work.Work.{Work}
use Rattle.plant_store.specs.{AreRestSame}

-- ---- a session that is done

-- All is recorded, and each pull of a group ended at the version of the refresh with its number.
pub record IsMixed (item_of : ℕ → ℕ → RawRow → Option Item) (base : Base) (rows : List (List RawRow))
    (queries : List (List Query)) (s : Session) : Type 0 where
  pub recorded : IsRecorded item_of rows queries s
  pub pulls : (group input : ℕ) (d : GroupDef) (g : GroupHistory) (t : TagHistory) → group < length s.groups.items
      → input < length (slice_index_or base.groups.items group d).inputs.items
      → pulled group (slice_index_or s.tags.items (slice_index (slice_index_or base.groups.items group d).inputs.items input) t).tape.items
      ≡ reached input (slice_index_or s.groups.items group g).tape.items

-- a group is refreshed, and has taken into account all records of its inputs' tags
pub record IsUpToDate (d : GroupDef) (turns : ℕ) (s : Session) (g : GroupHistory) : Type 0 where
  pub refreshed : IsGroupRefreshed d turns s g
  pub copies : lists_of g.copies.items ≡ map (tag_records_of s) d.inputs.items

-- a session that is done, whose groups have so many turns: no worker was stopped, each row and question had its turn,
-- each group is up to date, and the text is its report
pub record IsDoneSo (item_of : ℕ → ℕ → RawRow → Option Item) (turns_of : ℕ → ℕ) (base : Base) (rows : List (List RawRow))
    (queries : List (List Query)) (s : Session) (text : List ℕ) : Type 0 where
  pub ended : HaveAllEnded s.workers.items
  pub mixed : IsMixed item_of base rows queries s
  pub groups : AtEachGroup base s (λ i d g. IsUpToDate d (turns_of i) s g)
  pub same : text ≡ report base (length rows) queries s

-- ---- the promise

-- if the answer reports a device fault, the store's count of faults has risen, or is at the end of its type
abbrev pub IsFaultCounted : ℕ → ℕ → Status → Type 0
IsFaultCounted before now why = (unit : Device) → why ≡ DeviceFault unit → HasRisen before now

-- No device fault is counted in a session that is done. In any other the count does not fall, and a device fault that the
-- answer reports is counted.
abbrev pub CountsFaults : {T : Type 0} → ℕ → ℕ → Result T Status → Type 0
CountsFaults before now (Ok x) = now ≡ before
CountsFaults before now (Err why) = (before ≤ now) × IsFaultCounted before now why

-- The session of the plan in a file over the base in another, and its answer. The devices recorded such calls before,
-- and record such calls now; the store counted so many faults before, and so many now. Whatever the answer is, each tag
-- and each group is sound. Each was opened as what its device stood for, unless the answer reports that an opening has
-- changed. Unless the answer admits a take or a question of no file, no tag and no group has any. If there is a text, the
-- session is done; otherwise there is a cause. Unless the answer is a mismatch or want of memory, each group has first
-- records of its inputs' tags. The passes counted each stopped worker, up to 2^64 - 1. No device but those of the base's
-- tags and groups has changed.
pub record IsPromised (name plan_name : List ℕ) (told : ToldFiles) (before now : DeviceTraces) (faults_before faults_now : ℕ)
    (stops_before stops_now : ℕ) (answer : Result (String Global) Status) (s : Session) : Type 0 where
  pub base : Base
  pub plan : Plan
  pub rows : List (List RawRow)
  pub queries : List (List Query)
  pub planned : IsPlanned name plan_name told base plan rows queries
  pub tags : AllZip (λ (def : TagDef) t. IsTagSound def t (tag_trace_of before def) (tag_trace_of now def)) base.tags.items s.tags.items
  pub groups : AreGroupsSound base before now s
  pub opened_as : (IsOfOpening answer → ⊥) → AreUnitsOpened base before s
  pub begun : (AdmitsForeign answer → ⊥) → IsBegun take_item rows queries s
  pub done : IfOk answer (λ text. IsDoneSo take_item (λ i. turns_in i plan.refreshers.items) base rows queries s
      (string_bytes text))
  pub cause : IfErr answer (IsSessionCause take_item (λ i. turns_in i plan.refreshers.items) base before rows queries
      (faults_before < 2 ^ 64 → faults_now ≡ faults_before) s.workers.items s)
  pub copied : IfErr answer (λ why. (MayBeUncopied why → ⊥) → AtEachGroup base s (λ i d g. AreCopied s d g))
  pub counted : faults_before < 2 ^ 64 → CountsFaults faults_before faults_now answer
  pub work : Work
  pub work_is : IsPlannedWork 0 rows queries plan.refreshers.items work
  pub notes : AreNotes work stops_before stops_now s.workers.items
  pub ran : (AdmitsForeign answer → ⊥) → AreNotesOfAll work s.workers.items
  pub others : AreRestSame base before now
  pub no_log : s.log ≡ None

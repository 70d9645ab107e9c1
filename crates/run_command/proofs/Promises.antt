-- The promise of a session, from its cells and books.
use Rattle.std.proofs.Common.{◌≡◌, ◌<◌, ℕ, List, Result, Ok, Err, IfErr, String, string_bytes, arith}
use Rattle.std.specs.Prelude.{◌^◌}
use Rattle.std.specs.declared.alloc.Global.{Global}
use Rattle.disk_model.specs.{Device}
use Rattle.plant_status.specs.declared.status.Status.{Status}
use Rattle.plant_files.specs.PlanRows.{IsGoodBase, IsPlanned}
use Rattle.plant_files.specs.{ToldFiles}
use Rattle.plant_store.specs.Groups.{DeviceTraces}
use Rattle.tag_base.specs.{Base, Plan, Refresher}
use Rattle.value_rows.specs.{Query, RawRow}
use Rattle.session_audit.specs.Agendas.{phase_item}
use Rattle.session_report.specs.{Session}
use Rattle.run_command.specs.{Given, AreCopied, MayBeUncopied, IsPromised, AreUnitsOpened, AtEachGroup, turns_in}
use Rattle.run_command.specs.Causes.{IsSessionCause}
use Rattle.run_command.specs.Refusals.{IsOfOpening, IsOpening}
use Rattle.run_command.specs.Runs.{IsRefusedSo, IsRun, IsSessionHeld, IsWorkIn}
use Rattle.run_command.proofs.Checks.{copied_so, opening_reported, reported}
use Rattle.run_command.proofs.DeviceFaults.{none_counted}
use Rattle.run_command.proofs.Causes.{refusal_cause}
use Rattle.run_command.proofs.Continued.{groups_still, still}
use Rattle.run_command.proofs.Headline.{begun, done, held_opened, if_done, only_phase, session_counts, sound_groups, sound_tags}

-- a session of the plan in a file over the base in another, and what came of it
pub record IsSession {D : Type 0} (device : D → Device) (name plan_name : List ℕ) (told : ToldFiles)
    (old new : DeviceTraces) (before now : ℕ) (stops_before stops_now : ℕ) (answer : Result (String Global) Status) (s : Session)
    : Type 0 where
  pub base : Base
  pub plan : Plan
  pub rows : List (List RawRow)
  pub queries : List (List Query)
  pub given : Given
  pub good : IsGoodBase base
  pub planned : IsPlanned name plan_name told base plan rows queries
  pub work : IsWorkIn base 0 0 rows queries plan.refreshers.items given
  pub run : IsRun device base given old new before now stops_before stops_now answer s

-- a session that is not done has a cause
cause_of : {D : Type 0} (device : D → Device) → (base : Base) (g : Given) (old new : DeviceTraces)
    (before now : ℕ) (rows : List (List RawRow)) (queries : List (List Query)) (refreshers : List Refresher)
    (answer : Result (String Global) Status) (s : Session)
    → IsGoodBase base → IsWorkIn base 0 0 rows queries refreshers g
    → (run : IsSessionHeld device base g old new before now answer s)
    → ((IsOfOpening answer → ⊥) → AreUnitsOpened base old s)
    → IfErr answer (IsRefusedSo base g run.opened run.opened_books run.cells run.books s)
    → IfErr answer (IsSessionCause (phase_item 0) (λ i. turns_in i refreshers) base old rows queries (before < 2 ^ 64 → now ≡ before)
    s.workers.items s)
cause_of device base g old new before now rows queries refreshers (Ok text) s good given run was undone = tt
cause_of device base g old new before now rows queries refreshers (Err why) s good given run was undone =
    reported base s (phase_item 0) (λ i. turns_in i refreshers) old rows queries (before < 2 ^ 64 → now ≡ before) s.workers.items
    undone.came why (refusal_cause device base old new g run.cells run.books s run.over 0 0 rows queries refreshers good given
    (λ i. turns_in i refreshers) (λ i. omega arith) run.opened run.opened run.opened_books run.opened_books s.workers.items
    (before < 2 ^ 64 → now ≡ before) undone.came run.opening (still run.opened) (groups_still run.opened_books)
    (λ none. was (opens none))
    (λ none made few. none_counted device base old new run.cells run.books s run.over run.opened run.opened_books
    run.opening (run.same_tags (opens none)) (run.same_groups (opens none)) g made before now (run.counts few))
    undone.undone) undone.checked
  where
    opens : (IsOpening undone.came → ⊥) → IsOpening why → ⊥
    opens none of = none (opening_reported base s undone.came why undone.checked of)

pub promised : {D : Type 0} (device : D → Device) → (name plan_name : List ℕ) (told : ToldFiles)
    (old new : DeviceTraces) (before now stops_before stops_now : ℕ) (answer : Result (String Global) Status) (s : Session)
    → IsSession device name plan_name told old new before now stops_before stops_now answer s
    → IsPromised name plan_name told old new before now stops_before stops_now answer s
promised device name plan_name told old new before now stops_before stops_now answer s is =
    let run = is.run.held in
    let opened_as = held_opened device is.base is.given old new before now answer s run in
    record {
      base = is.base;
      plan = is.plan;
      rows = is.rows;
      queries = is.queries;
      planned = is.planned;
      tags = sound_tags old new is.base.tags.items s.tags.items run.over.devices;
      groups = sound_groups device is.base old new run.cells run.books s run.over;
      opened_as = opened_as;
      begun = λ none. begun device is.base old new is.given run.cells run.books s run.over 0 0 is.rows is.queries
          is.plan.refreshers.items is.work (is.run.begun none);
      done = if_done answer opened_as
          (λ was text it. only_phase is.base is.rows is.queries is.plan.refreshers.items s (string_bytes text)
          (done device is.base old new is.given run.cells run.books s run.over 0 0 is.rows is.queries
          is.plan.refreshers.items (string_bytes text) is.good is.work was it)) run.done;
      counted = λ few. session_counts device is.base is.given old new before now answer s run is.run.undone few;
      cause = cause_of device is.base is.given old new before now is.rows is.queries is.plan.refreshers.items answer s
          is.good is.work run opened_as is.run.undone;
      copied = copied answer is.run.undone;
      work = is.given.work;
      work_is = is.work.its;
      notes = is.run.notes;
      ran = is.run.ran;
      others = run.over.others;
      no_log = run.over.no_log;
    }
  where
    copied : (answer : Result (String Global) Status) → IfErr answer (IsRefusedSo is.base is.given is.run.held.opened is.run.held.opened_books is.run.held.cells is.run.held.books s)
        → IfErr answer (λ why. (MayBeUncopied why → ⊥) → AtEachGroup is.base s (λ i d g. AreCopied s d g))
    copied (Ok text) undone = tt
    copied (Err why) undone = copied_so is.base s undone.came why undone.checked

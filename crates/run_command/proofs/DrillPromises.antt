-- What is promised of the session of a drill.
use Rattle.std.proofs.Common.{◌≡◌, ◌∙◌, inl, inr, ◌+◌, ◌/◌, ℕ, List, [], Result, Ok, Err, IfErr, String, Global, ap, refl, string_bytes, subst, sym}
use Rattle.std.specs.Prelude.{⊤}
use Rattle.plant_status.specs.declared.status.Status.{Status}
use Rattle.plant_store.specs.Groups.{DeviceTraces}
use Rattle.tag_base.specs.{Base}
use Rattle.value_rows.specs.{RawRow}
use Rattle.session_audit.specs.Agendas.{phase_item}
use Rattle.session_audit.specs.{IsFirstPullMismatch}
use Rattle.session_report.specs.{Session}
use Rattle.run_command.specs.{Given, AreCopied, AsItCame, AsUncopied, IsChecked, MayBeUncopied, IsUndoneOfBoth, OfFirst, OfFirstPull, OfReport, OfSecond, drill_rows_of, InFirst, InPull, InReport, InSecond, IsDrillBase, IsDrillCause}
use Rattle.run_command.specs.{IsDrilled, IsPhaseCause, IsRunInPhases, drill_status, fresh_devices, memory_device, IsDoneSo, AtEachGroup, turns_in}
use Rattle.run_command.specs.Runs.{IsWorkIn}
use Rattle.plant_files.specs.PlanRows.{IsGoodBase}
use Rattle.run_command.specs.Refusals.{IsOpening}
use Rattle.run_command.proofs.Causes.{refusal_cause}
use Rattle.run_command.proofs.Checks.{copied_so, opening_reported, reported}
use Rattle.run_command.proofs.Continued.{groups_still, still}
use Rattle.run_command.proofs.DrillPulls.{apart, pulled_elsewhere}
use Rattle.run_command.proofs.DrillNew.{all_new}
use Rattle.run_command.proofs.DrillUndone.{kept_or_fault, opening_back}
use Rattle.std.proofs.lemmas.Result.{on_ok_weaker}
use Rattle.run_command.proofs.Headline.{begun, done, held_opened, if_done, mixed, sound_groups, sound_tags, up_to_date}

-- the base, and the work of the two phases: before the second phase each collector has taken the first half of its
-- events
pub record IsDrillWork (number tags events : ℕ) (base : Base) (first second : Given) : Type 0 where
  pub base_is : IsDrillBase tags base
  pub good : IsGoodBase base
  pub first_is : IsWorkIn base 0 0 (drill_rows_of number tags 0 (events / 2)) [] [] first
  pub second_is : IsWorkIn base (events / 2) 1 (drill_rows_of number tags 0 events) [] [] second

-- the session of a drill over devices in memory
pub record IsDrill (number tags events stops_before stops_now : ℕ) (answer : Result (String Global) Status) (s : Session)
    : Type 0 where
  pub base : Base
  pub first : Given
  pub second : Given
  pub new : DeviceTraces
  pub now : ℕ
  pub work : IsDrillWork number tags events base first second
  pub run : IsRunInPhases memory_device base first second fresh_devices new 0 now stops_before stops_now
      answer s

-- this work makes such a session
pub as_drill : (number tags events stops_before stops_now : ℕ) (answer : Result (String Global) Status) (s : Session) (base : Base)
    (first second : Given) → IsDrillWork number tags events base first second
    → ((new : DeviceTraces) × (now : ℕ) × IsRunInPhases memory_device base first second fresh_devices new 0 now
    stops_before stops_now answer s)
    → IsDrill number tags events stops_before stops_now answer s
as_drill number tags events stops_before stops_now answer s base first second work is = record {
  base = base;
  first = first;
  second = second;
  new = is.0;
  now = is.1;
  work = work;
  run = is.2;
}

-- a phase of a drill that is not done has a cause, with what is reported of it
phase_of : (number tags events stops_before stops_now : ℕ) (why came cause : Status) (s : Session)
    → (is : IsDrill number tags events stops_before stops_now (Err why) s) → why ≡ drill_status cause → IsChecked is.base s came cause
    → IsUndoneOfBoth is.first is.second is.run.held.opened is.run.held.opened_books is.run.held.cells is.run.held.books s.workers.items came
    → IsPhaseCause number tags events is.base is.first.work is.second.work s.workers.items s cause
phase_of number tags events stops_before stops_now why came cause s is told checked (OfFirst notes undone) =
    let run = is.run.held in
    InFirst notes (reported is.base s (phase_item 0) (λ i. 0) fresh_devices (drill_rows_of number tags 0 (events / 2)) [] ⊤ s.workers.items
    came cause (refusal_cause memory_device is.base fresh_devices is.new is.first run.cells
    run.books s run.over 0 0 (drill_rows_of number tags 0 (events / 2)) [] [] is.work.good is.work.first_is (λ i. 0) (λ i. refl) run.opened
    run.opened run.opened_books run.opened_books s.workers.items ⊤ came run.opening (still run.opened) (groups_still run.opened_books)
    (λ none. held_opened memory_device is.base is.second fresh_devices is.new 0 is.now (Err why) s run
    (λ of. none (opening_reported is.base s came cause checked (opening_back cause (subst IsOpening told of))))) (λ none made. tt) undone) checked)
phase_of number tags events stops_before stops_now why came cause s is told checked (OfSecond between between_books front notes ended same same_books made undone) =
    let run = is.run.held in
    InSecond front undone.more undone.behind notes ended (reported is.base s (phase_item (events / 2)) (λ i. 1) fresh_devices
    (drill_rows_of number tags 0 events) [] ⊤ undone.more came cause (refusal_cause memory_device is.base
    fresh_devices is.new is.second run.cells run.books s run.over (events / 2) 1 (drill_rows_of number tags 0 events) [] [] is.work.good
    is.work.second_is (λ i. 1) (λ i. refl) run.opened between run.opened_books between_books undone.more ⊤ came run.opening same same_books
    (λ none. held_opened memory_device is.base is.second fresh_devices is.new 0 is.now (Err why) s run
    (λ of. none (opening_reported is.base s came cause checked (opening_back cause (subst IsOpening told of))))) (λ none made. tt)
    undone.undone) checked)
phase_of number tags events stops_before stops_now why came cause s is told (AsItCame same copied) (OfFirstPull notes ended made pulled elsewhere) =
    let run = is.run.held in
    let mismatch = subst (IsFirstPullMismatch is.first.rooms.items run.cells) (sym same) elsewhere in
    let opened = held_opened memory_device is.base is.second fresh_devices is.new 0 is.now (Err why) s
    run (λ of. subst IsOpening mismatch.told (opening_back cause (subst IsOpening told of))) in
    InPull notes ended (mixed memory_device is.base fresh_devices is.new is.second run.cells run.books s run.over
    (events / 2) 1 (drill_rows_of number tags 0 events) [] [] is.work.good is.work.second_is made pulled)
    (up_to_date memory_device is.base fresh_devices is.new is.second run.cells run.books s
    run.over (events / 2) 1 (drill_rows_of number tags 0 events) [] [] is.work.good is.work.second_is made pulled opened)
    (pulled_elsewhere memory_device is.base fresh_devices is.new run.cells run.books s run.over is.first
    (drill_rows_of number tags 0 (events / 2)) is.work.first_is cause mismatch)
phase_of number tags events stops_before stops_now why came cause s is told (AsUncopied none apart) (OfFirstPull notes ended made pulled elsewhere) =
    absurd (none (subst MayBeUncopied (sym elsewhere.told) tt))
phase_of number tags events stops_before stops_now why came cause s is told (AsItCame same copied) (OfReport memory) = InReport (same ∙ memory)
phase_of number tags events stops_before stops_now why came cause s is told (AsUncopied none apart) (OfReport memory) =
    absurd (none (subst MayBeUncopied (sym memory) tt))

-- so has a drill that is not done
cause_of : (number tags events stops_before stops_now : ℕ) (answer : Result (String Global) Status) (s : Session)
    → (is : IsDrill number tags events stops_before stops_now answer s) → IfErr answer (IsDrillCause number tags events is.base is.first.work is.second.work s)
cause_of number tags events stops_before stops_now (Ok text) s is = tt
cause_of number tags events stops_before stops_now (Err why) s is =
    let undone = is.run.undone in
    record {
      cause = undone.cause;
      told = undone.told;
      phase = phase_of number tags events stops_before stops_now why undone.came undone.cause s is undone.told undone.checked undone.undone;
    }

-- the groups of one that is not done
copied_in : (number tags events stops_before stops_now : ℕ) (answer : Result (String Global) Status) (s : Session)
    → (is : IsDrill number tags events stops_before stops_now answer s)
    → IfErr answer (λ why. (MayBeUncopied why → ⊥) → AtEachGroup is.base s (λ i d g. AreCopied s d g))
copied_in number tags events stops_before stops_now (Ok text) s is = tt
copied_in number tags events stops_before stops_now (Err why) s is = λ none.
    let undone = is.run.undone in
    copied_so is.base s undone.came undone.cause undone.checked (λ may. none (elim (kept_or_fault undone.cause) [
      | inl kept ↦ subst MayBeUncopied (sym (undone.told ∙ kept)) may
      | inr fault ↦ subst MayBeUncopied (sym (undone.told ∙ ap drill_status fault.1)) tt
    ]))

pub promised : (number tags events stops_before stops_now : ℕ) (answer : Result (String Global) Status) (s : Session)
    → IsDrill number tags events stops_before stops_now answer s → IsDrilled number tags events stops_before stops_now answer s
promised number tags events stops_before stops_now answer s is =
    let run = is.run.held in
    let work = is.work in
    let opened_as = held_opened memory_device is.base is.second fresh_devices is.new 0 is.now answer s
    run in
    record {
      base = is.base;
      devices = is.new;
      base_is = work.base_is;
      tags_are = sound_tags fresh_devices is.new is.base.tags.items s.tags.items run.over.devices;
      groups = sound_groups memory_device is.base fresh_devices is.new run.cells run.books s run.over;
      opened_as = opened_as;
      new = λ none. all_new is.base s (opened_as none);
      begun = λ none. elim (is.run.begun none) [
        | inl was ↦ inl (begun memory_device is.base fresh_devices is.new is.first run.cells run.books s run.over
            0 0 (drill_rows_of number tags 0 (events / 2)) [] [] work.first_is was)
        | inr was ↦ inr (begun memory_device is.base fresh_devices is.new is.second run.cells run.books s run.over
            (events / 2) 1 (drill_rows_of number tags 0 events) [] [] work.second_is was)
      ];
      done = if_done answer opened_as
          (λ was text it. once _ is.base _ (string_bytes text) (done memory_device is.base fresh_devices is.new is.second run.cells run.books s run.over
          _ 1 _ [] [] (string_bytes text) work.good work.second_is was it)) run.done;
      cause = cause_of number tags events stops_before stops_now answer s is;
      copied = copied_in number tags events stops_before stops_now answer s is;
      first = is.first.work;
      second = is.second.work;
      first_is = work.first_is.its;
      second_is = work.second_is.its;
      notes = is.run.notes;
      ran = is.run.ran;
      apart = on_ok_weaker answer (apart memory_device is.base fresh_devices is.new run.cells run.books s run.over
          is.first (drill_rows_of number tags 0 (events / 2)) work.first_is) is.run.apart;
      no_log = run.over.no_log;
    }
  where
    -- no refresher has a turn, so each group has the turn of the phase before
    once : (earlier : ℕ) (base : Base) (rows : List (List RawRow)) (text : List ℕ)
        → IsDoneSo (phase_item earlier) (λ i. 1 + turns_in i []) base rows [] s text
        → IsDoneSo (phase_item earlier) (λ i. 1) base rows [] s text
    once earlier base rows text it = record {
      ended = it.ended;
      mixed = it.mixed;
      groups = λ i d g below. it.groups i d g below;
      same = it.same;
    }

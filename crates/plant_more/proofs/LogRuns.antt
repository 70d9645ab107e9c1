-- A log that was held, and what the command returns for it.
use Rattle.std.proofs.Common.{◌≡◌, ℕ, ◌-◌, ◌^◌, ◌<◌, List, length, Result, Ok, Err, String, refl, sym, ap, ◌∙◌, subst, inl, inr, arith}
use Rattle.std.specs.Prelude.{◌⊎◌, All, IfErr, IfOk, OnOk, string_bytes}
use Rattle.std.specs.declared.alloc.Global.{Global}
use Rattle.std.proofs.lemmas.List.Elements.{All-append}
use Rattle.std.proofs.lemmas.Bool.{cases_lt}
use Rattle.disk_model.specs.{Rose, Shows, sum_of_counts, Device, Trace, moment, IsNew}
use Rattle.tag_base.specs.{Base}
use Rattle.value_rows.specs.{RawRow}
use Rattle.plant_status.specs.declared.status.Status.{Status}
use Rattle.plant_status.specs.declared.status.Status.TheVariants.{DeviceFault}
use Rattle.plant_status.specs.declared.unit.Unit.{Unit as UnitOf}
use Rattle.plant_status.specs.declared.unit.Unit.TheVariants.{Tag, Group, Log}
use Rattle.commit_log.specs.{LogHistory, LogTurn, LogRow, IsLogRow, StandsForRows, IsLogOpenedWell, puts, log_begin, IsHandedOut, ToldLog, log_name}
use Rattle.archive_file.specs.{TextOpensAt}
use Rattle.commit_log.proofs.Tapes.{fit_rows}
use Rattle.plant_more.specs.{LogNote, KnownLog, EndedLog, IsAsKnown, total_rows, log_rows, plant_text}
use Rattle.plant_more.specs.LogFinding.{ArePutsBegun, AreWhole}
use Rattle.plant_more.specs.LogHeadline.{HasLogCountRisen, IsDone, IsEnded, IsHistoryOfLog, IsLogOpenedAs, IsRun, IsLogReported, IsUndone, OfReport, OfSettling}
use Rattle.plant_more.specs.LogOpenings.{AreOthersSame, TracesByName, IsLogOpened}
use Rattle.plant_more.specs.LogRefusals.{AdmitsForeignPut, ArePutsMade, AreUnstopped, IsOfOpening, IsSettlingRefusal, OfCommit, OfFinding, OfMemory, OfOpening, OfPut, OfRest, OfStop}

-- all rows of a legal history are of its tags
pub rows_legal : (tags : ℕ) (h : LogHistory) (trace : Trace) (ticks faults : ℕ) → IsHandedOut h trace ticks faults → h.tags ≡ tags
    → All (IsLogRow tags) (log_rows h)
rows_legal tags h trace ticks faults is same =
    subst (λ (n : ℕ). All (IsLogRow n) (log_rows h)) same
    (All-append (IsLogRow h.tags) h.opening.items (puts h.tape.items) is.legal.opened
    (fit_rows h.tags (log_begin (length h.opening.items) h.moment) h.tape.items is.legal.turns))

-- so are those of a log that is done
pub rows_known : {D : Type 0} (device : D → Device) (files : List (List RawRow)) (e : EndedLog D) (known : KnownLog)
    (tags before now : ℕ) → IsEnded device files known before now e → known.tags ≡ tags
    → OnOk e.answer (All (IsLogRow tags) (log_rows e.history))
rows_known {D} device files e known tags before now ended same = by_answer e.answer refl
  where
    rows : IsAsKnown ended.log known → All (IsLogRow tags) (log_rows e.history)
    rows found = rows_legal tags e.history (device e.dev).trace (moment (device e.dev).trace) (device e.dev).faults ended.history (ended.history_is.tags ∙ (found.tags ∙ same))

    by_answer : (came : Result Unit Status) → e.answer ≡ came → OnOk came (All (IsLogRow tags) (log_rows e.history))
    by_answer (Err why) is = tt
    by_answer (Ok x) is = rows (ended.as_known (λ of. subst (λ (r : Result Unit Status). IsOfOpening r) is of))

-- a device fault that the status reports is one that the log's device has counted
fault_of_unit : {D : Type 0} (faults : ℕ) (files : List (List RawRow)) (notes : List LogNote) (known : KnownLog) (l : ToldLog D) (unit : UnitOf)
    → IsSettlingRefusal faults files notes known l (DeviceFault unit) → 0 < faults
fault_of_unit faults files notes known l unit (OfOpening is) = absurd is.first
fault_of_unit faults files notes known l unit (OfFinding kept is) = absurd is
fault_of_unit faults files notes known l unit (OfRest kept (OfStop is)) = absurd is
fault_of_unit faults files notes known l Log (OfRest kept (OfPut unstopped is)) = is
fault_of_unit faults files notes known l (Tag n) (OfRest kept (OfPut unstopped is)) = absurd is
fault_of_unit faults files notes known l (Group n) (OfRest kept (OfPut unstopped is)) = absurd is
fault_of_unit faults files notes known l Log (OfRest kept (OfCommit unstopped is)) = is
fault_of_unit faults files notes known l (Tag n) (OfRest kept (OfCommit unstopped is)) = absurd is
fault_of_unit faults files notes known l (Group n) (OfRest kept (OfCommit unstopped is)) = absurd is
fault_of_unit faults files notes known l unit (OfMemory same) = cc same

-- a sum of counts is above the first one, or at the end of the type
risen_sum : (before faults now : ℕ) → before < 2 ^ 64 → 0 < faults → now ≡ sum_of_counts before faults → HasLogCountRisen before now
risen_sum before faults now small some is = elim (cases_lt before (2 ^ 64 - 1)) [
  | inl less ↦ inl (omega (arith, less, is, some))
  | inr most ↦ inr (omega (arith, most, is, some))
]

module _ (base : Base) (h : LogHistory) where
  -- a refused opening is returned as one
  opening_told : (came : Result Unit Status) (told : Result (String Global) Status) → IsLogReported base h came told
      → IsOfOpening came → IsOfOpening told
  opening_told (Ok x) told is of = absurd of
  opening_told (Err why) told is of = subst (λ (r : Result (String Global) Status). IsOfOpening r) (sym is.refused) of

  -- so is a refusal that admits a put of no file
  foreign_told : (came : Result Unit Status) (told : Result (String Global) Status) → IsLogReported base h came told
      → AdmitsForeignPut came → AdmitsForeignPut told
  foreign_told (Ok x) told is of = absurd of
  foreign_told (Err why) told is of = subst (λ (r : Result (String Global) Status). AdmitsForeignPut r) (sym is.refused) of

  -- what holds of a log that is not refused holds if there is a text
  text_told : (P : Type 0) (came : Result Unit Status) (told : Result (String Global) Status) → IsLogReported base h came told
      → OnOk came P → OnOk told P
  text_told P (Ok x) (Ok text) is p = p
  text_told P (Ok x) (Err why) is p = tt
  text_told P (Err why) (Ok text) is p = absurd (cc (is.refused))
  text_told P (Err why) (Err e) is p = tt

  module _ {D : Type 0} (rows : List (List RawRow)) (log : ToldLog D) where
    -- if there is a text, the log is done
    done_told : (came : Result Unit Status) (told : Result (String Global) Status) → IsLogReported base h came told → IsHistoryOfLog log h
        → OnOk came (ArePutsMade rows log) → IfOk told (λ text. IsDone base rows h (string_bytes text))
    done_told (Ok x) (Ok text) is history made = record {
      whole = subst (λ (l : List LogTurn). AreWhole rows l) (sym history.tape) made.whole;
      acknowledged = omega (arith, made.none_waits, ap length history.opening, ap (λ (l : List LogTurn). length (puts l)) history.tape, history.acked);
      told = is.text;
    }
    done_told (Ok x) (Err why) is history made = tt
    done_told (Err why) (Ok text) is history made = absurd (cc (is.refused))
    done_told (Err why) (Err e) is history made = tt

    module _ (faults : ℕ) (notes : List LogNote) (known : KnownLog) where
      -- and a cause where there is none
      undone_told : (came : Result Unit Status) (told : Result (String Global) Status) → IsLogReported base h came told
          → OnOk came (AreUnstopped notes) → OnOk came (ArePutsMade rows log) → IfErr came (IsSettlingRefusal faults rows notes known log)
          → IfErr told (IsUndone faults base rows notes known log h)
      undone_told (Ok x) (Ok text) is ended made refused = tt
      undone_told (Ok x) (Err why) is ended made refused = OfReport ended made is.untold
      undone_told (Err why) (Ok text) is ended made refused = tt
      undone_told (Err why) (Err e) is ended made refused =
          OfSettling (subst (IsSettlingRefusal faults rows notes known log) (err_is why e (Err e) refl is.refused) refused)
        where
          err_is : (a b : Status) (r : Result (String Global) Status) → r ≡ Err b → r ≡ Err a → a ≡ b
          err_is a b r is same = cc

      -- a fault that a status reports was counted
      fault_counted : (unit : UnitOf) → IsUndone faults base rows notes known log h (DeviceFault unit) → 0 < faults
      fault_counted unit (OfSettling is) = fault_of_unit faults rows notes known log unit is
      fault_counted unit (OfReport ended made is) = absurd is

      faults_told : (told : Result (String Global) Status) (before now : ℕ) → IfErr told (IsUndone faults base rows notes known log h)
          → before < 2 ^ 64 → now ≡ sum_of_counts before faults
          → IfErr told (λ why. (unit : UnitOf) → why ≡ DeviceFault unit → HasLogCountRisen before now)
      faults_told (Ok text) before now undone small is = tt
      faults_told (Err why) before now undone small is =
          λ unit same. risen_sum before faults now small
          (fault_counted unit (subst (IsUndone faults base rows notes known log h) same undone)) is

-- one fault is counted at most
counted_once : (before faults now : ℕ) → before < 2 ^ 64 → (faults ≡ 0) ⊎ Rose 0 faults → now ≡ sum_of_counts before faults
    → (now ≡ before) ⊎ Rose before now
counted_once before faults now small (inl none) is = inl (omega arith)
counted_once before faults now small (inr one) is = inr (omega arith)

-- the log that was held, and what the command returns for it
pub is_run : {D : Type 0} (device : D → Device) (base : Base) (rows : List (List RawRow)) (known : KnownLog)
    (first : ToldLog D) (e : EndedLog D) (old mid new : TracesByName) (before now stops_before stops_now : ℕ) (answer : Result (String Global) Status)
    → IsEnded device rows known stops_before stops_now e
    → IsLogOpened device (plant_text base.tags.items) (length base.tags.items) (total_rows rows) (old log_name) first
    → IsAsKnown first known → known.plant.items ≡ plant_text base.tags.items → known.tags ≡ length base.tags.items
    → AreOthersSame old mid → AreOthersSame mid new → new log_name ≡ (device e.dev).trace → now ≡ sum_of_counts before (device e.dev).faults
    → IsLogReported base e.history e.answer answer
    → IsLogOpenedWell e.history.plant.items e.history.tags e.history.opening.items e.history.moment (old log_name) (device e.dev).trace
    → IsRun device base rows old new before now stops_before stops_now answer e.history
is_run {D} device base rows known first e old mid new before now stops_before stops_now answer ended opened kept plant tags
    others others' back counted told since = record {
      first = first;
      opened = opened;
      known = known;
      kept = kept;
      log = ended.log;
      notes = ended.notes;
      history_is = is;
      given = back ∙ ap (λ d. (device d).trace) ended.same_device;
      history = subst (λ (d : D). IsHandedOut e.history (new log_name) (moment (device d).trace) (device d).faults) ended.same_device
          (subst (λ (o : Trace). IsHandedOut e.history o (moment (device e.dev).trace) (device e.dev).faults) (sym back) ended.history);
      opened_as = λ other. opened_as other;
      since = subst (IsLogOpenedWell e.history.plant.items e.history.tags e.history.opening.items e.history.moment (old log_name)) (sym back) since;
      notes_are = ended.notes_are;
      begun = λ other. subst (λ (l : List LogTurn). ArePutsBegun rows l) (sym is.tape)
          (ended.begun (λ of. other (foreign_told base e.history e.answer answer told of)));
      ended = text_told base e.history (AreUnstopped ended.notes) e.answer answer told ended.ended;
      done = done_told base e.history rows ended.log e.answer answer told is ended.made;
      undone = undone;
      others = λ n differs. others' n differs ∙ others n differs;
      counts = λ small. record {
        later = omega (arith, total, small);
        told = faults_told base e.history rows ended.log (device ended.log.dev).faults ended.notes known answer before now undone small total;
        once = λ other. counted_once before (device ended.log.dev).faults now small (one_fault other) total;
        faultless = text_told base e.history (now ≡ before) e.answer answer told (unrisen small e.answer refl);
      };
    }
  where
    is : IsHistoryOfLog ended.log e.history
    is = ended.history_is

    total : now ≡ sum_of_counts before (device ended.log.dev).faults
    total = counted ∙ ap (λ (d : D). sum_of_counts before (device d).faults) ended.same_device

    undone : IfErr answer (IsUndone (device ended.log.dev).faults base rows ended.notes known ended.log e.history)
    undone = undone_told base e.history rows ended.log (device ended.log.dev).faults ended.notes known e.answer answer told ended.ended ended.made ended.refused

    as_known : (IsOfOpening answer → ⊥) → IsAsKnown ended.log known
    as_known other = ended.as_known (λ of. other (opening_told base e.history e.answer answer told of))

    opened_as : (IsOfOpening answer → ⊥) → IsLogOpenedAs base (old log_name) e.history
    opened_as other =
        let found : IsAsKnown ended.log known = as_known other in
        record {
          plant = is.plant ∙ (found.plant ∙ plant);
          tags = is.tags ∙ (found.tags ∙ tags);
          opened_at = subst (TextOpensAt IsNew (old log_name)) (kept.moment ∙ (sym found.moment ∙ sym is.moment)) opened.opened_at;
          opening = subst (λ (l : List LogRow). Shows (old log_name) (λ c. StandsForRows (plant_text base.tags.items) (length base.tags.items) c l))
              (kept.rows ∙ (sym found.rows ∙ sym is.opening)) opened.rows;
        }

    one_fault : (IsOfOpening answer → ⊥) → ((device ended.log.dev).faults ≡ 0) ⊎ Rose 0 (device ended.log.dev).faults
    one_fault other =
        let found : IsAsKnown ended.log known = as_known other in
        let none : e.history.faults ≡ 0 = is.faults ∙ (found.faults ∙ (sym kept.faults ∙ opened.faults_are)) in
        subst (λ (n : ℕ). (n ≡ 0) ⊎ Rose 0 n) (ap (λ d. (device d).faults) ended.same_device)
        (subst (λ (n : ℕ). ((device e.dev).faults ≡ n) ⊎ Rose n (device e.dev).faults) none ended.history.faults_since)

    unrisen : before < 2 ^ 64 → (came : Result Unit Status) → e.answer ≡ came → OnOk came (now ≡ before)
    unrisen small (Err why) answer_is = tt
    unrisen small (Ok x) answer_is =
        let found : IsAsKnown ended.log known = ended.as_known (λ of. subst (λ (r : Result Unit Status). IsOfOpening r) answer_is of) in
        let none : (device e.dev).faults ≡ ended.log.faults = subst (λ (r : Result Unit Status). OnOk r ((device e.dev).faults ≡ ended.log.faults)) answer_is ended.faultless in
        let opened_none : ended.log.faults ≡ 0 = found.faults ∙ (sym kept.faults ∙ opened.faults_are) in
        omega (arith, counted, small, none, opened_none)

-- No refusal of this command is that of another one.
use Rattle.std.proofs.Common.{◌≡◌, ℕ, List, length, Option, None, Some, Result, Ok, Err, String, refl, sym, subst, inl, inr}
use Rattle.std.specs.Prelude.{◌≢◌, ◌⊎◌, IfErr, IfSome}
use Rattle.std.specs.declared.alloc.Global.{Global}
use Rattle.disk_model.specs.{Device}
use Rattle.tag_base.specs.{Base}
use Rattle.value_rows.specs.{RawRow}
use Rattle.plant_files.specs.Reading.{faults_after, faults_told}
use Rattle.plant_files.specs.{ToldFiles}
use Rattle.plant_files.specs.PlanRows as plans
use Rattle.plant_status.specs.{FileId}
use Rattle.plant_status.specs.declared.status.Status.{Status}
use Rattle.plant_status.specs.declared.status.Status.TheVariants.{BadWords, Done, ReadFault, WantOfMemory, WriteFault}
use Rattle.commit_log.specs.{LogHistory, LogNo, ToldLog, log_name}
use Rattle.commit_log.specs.declared.refusal.LogNo.TheVariants as no
use Rattle.plant_more.specs.{LogNote, KnownLog, total_rows, plant_text}
use Rattle.plant_more.specs.LogHeadline.{IsOfOthers, IsRun, IsUndone, IsUnopened, OfReport, OfSettling}
use Rattle.plant_more.specs.LogOpenings.{TracesByName, IsOpeningRefusal, status_of}
use Rattle.plant_more.specs.LogRefusals.{IsSettlingRefusal, OfCommit, OfFinding, OfMemory, OfOpening, OfPut, OfRest, OfStop}

-- no file is refused so
no_read : (name plan_name : List ℕ) (told : ToldFiles) (why : Status) → plans.IsReadRefusal name plan_name told why → IsOfOthers why → ⊥
no_read name plan_name told Done (plans.OfBase is) of = is
no_read name plan_name told Done (plans.OfPlan base read is) of = is
no_read name plan_name told Done (plans.OfCollector base plan read planned is) of = (is (λ same. cc same)).refused
no_read name plan_name told BadWords (plans.OfBase is) of = is
no_read name plan_name told BadWords (plans.OfPlan base read is) of = is
no_read name plan_name told BadWords (plans.OfCollector base plan read planned is) of = (is (λ same. cc same)).refused
no_read name plan_name told WriteFault (plans.OfBase is) of = is
no_read name plan_name told WriteFault (plans.OfPlan base read is) of = is
no_read name plan_name told WriteFault (plans.OfCollector base plan read planned is) of = (is (λ same. cc same)).refused
no_read name plan_name told other is of = absurd of

pub no_file : (name plan_name : List ℕ) (told : ToldFiles) (why : Status) → plans.IsCollectingRefusal name plan_name told why
    → IsOfOthers why → ⊥
no_file name plan_name told why (plans.OfReading is) of = no_read name plan_name told why is of
no_file name plan_name told why (plans.OfMany base plan rows read is) of = subst IsOfOthers is.told of

-- nor is a log
no_status : (reason : LogNo) → IsOfOthers (status_of reason) → ⊥
no_status no.DeviceFault of = of
no_status (no.Damaged at byte) of = of
no_status (no.OtherPlant at) of = of
no_status (no.TooMany rows) of = of
no_status no.WantOfMemory of = of

pub no_opening : (base : Base) (rows : ℕ) (old new : TracesByName) (before now : ℕ) (why : Status) → IsUnopened base rows old new before now why
    → IsOfOthers why → ⊥
no_opening base rows old new before now why is of = by_cause is.cause
  where
    by_cause : IsOpeningRefusal (plant_text base.tags.items) (length base.tags.items) rows (old log_name) before now why ⊎ (why ≡ WantOfMemory) → ⊥
    by_cause (inl refused) = no_status refused.reason (subst IsOfOthers refused.told of)
    by_cause (inr same) = subst IsOfOthers same of

-- nor is one that was held
module _ {D : Type 0} (faults : ℕ) (files : List (List RawRow)) (notes : List LogNote) (known : KnownLog) (l : ToldLog D) where
  no_settling : (why : Status) → IsSettlingRefusal faults files notes known l why → IsOfOthers why → ⊥
  no_settling Done (OfOpening is) of = is.first
  no_settling Done (OfFinding kept is) of = is
  no_settling Done (OfRest kept (OfStop is)) of = is
  no_settling Done (OfRest kept (OfPut unstopped is)) of = is
  no_settling Done (OfRest kept (OfCommit unstopped is)) of = is
  no_settling Done (OfMemory same) of = cc same
  no_settling BadWords (OfOpening is) of = is.first
  no_settling BadWords (OfFinding kept is) of = is
  no_settling BadWords (OfRest kept (OfStop is)) of = is
  no_settling BadWords (OfRest kept (OfPut unstopped is)) of = is
  no_settling BadWords (OfRest kept (OfCommit unstopped is)) of = is
  no_settling BadWords (OfMemory same) of = cc same
  no_settling WriteFault (OfOpening is) of = is.first
  no_settling WriteFault (OfFinding kept is) of = is
  no_settling WriteFault (OfRest kept (OfStop is)) of = is
  no_settling WriteFault (OfRest kept (OfPut unstopped is)) of = is
  no_settling WriteFault (OfRest kept (OfCommit unstopped is)) of = is
  no_settling WriteFault (OfMemory same) of = cc same
  no_settling other is of = absurd of

  no_undone : (base : Base) (h : LogHistory) (why : Status) → IsUndone faults base files notes known l h why → IsOfOthers why → ⊥
  no_undone base h why (OfSettling is) of = no_settling why is of
  no_undone base h Done (OfReport ended made is) of = is
  no_undone base h BadWords (OfReport ended made is) of = is
  no_undone base h WriteFault (OfReport ended made is) of = is
  no_undone base h other (OfReport ended made is) of = absurd of

pub no_run : {D : Type 0} (device : D → Device) (base : Base) (rows : List (List RawRow)) (old new : TracesByName)
    (before now stops_before stops_now : ℕ) (answer : Result (String Global) Status) (h : LogHistory)
    → IsRun device base rows old new before now stops_before stops_now answer h
    → IfErr answer (λ why. IsOfOthers why → ⊥)
no_run device base rows old new before now stops_before stops_now (Ok text) h is = tt
no_run device base rows old new before now stops_before stops_now (Err why) h is =
    no_undone (device is.log.dev).faults rows is.notes is.known is.log base h why is.undone

-- what follows of a refusal
pub err_weaker : {T E : Type 0} {P Q : E → Type 0} (r : Result T E) → ((e : E) → P e → Q e) → IfErr r P → IfErr r Q
err_weaker (Ok x) follows p = tt
err_weaker (Err e) follows p = follows e p

-- ---- a log that is not opened is no read fault

read_status : (reason : LogNo) (which : FileId) → status_of reason ≡ ReadFault which → ⊥
read_status no.DeviceFault which same = cc same
read_status (no.Damaged at byte) which same = cc same
read_status (no.OtherPlant at) which same = cc same
read_status (no.TooMany rows) which same = cc same
read_status no.WantOfMemory which same = cc same

memory_is_none : (which : FileId) → WantOfMemory ≡ ReadFault which → ⊥
memory_is_none which same = cc same

pub no_read_fault : (base : Base) (rows : ℕ) (old new : TracesByName) (before now : ℕ) (why : Status)
    → IsUnopened base rows old new before now why → (which : FileId) → why ≢ ReadFault which
no_read_fault base rows old new before now why is which same = by_cause is.cause
  where
    by_cause : IsOpeningRefusal (plant_text base.tags.items) (length base.tags.items) rows (old log_name) before now why ⊎ (why ≡ WantOfMemory) → ⊥
    by_cause (inl refused) = read_status refused.reason which (subst (λ (s : Status). s ≡ ReadFault which) refused.told same)
    by_cause (inr memory) = memory_is_none which (subst (λ (s : Status). s ≡ ReadFault which) memory same)

-- it counts no fault of a file
none_read : (reason : LogNo) (n : ℕ) → faults_told (status_of reason) n ≡ n
none_read no.DeviceFault n = refl
none_read (no.Damaged at byte) n = refl
none_read (no.OtherPlant at) n = refl
none_read (no.TooMany rows) n = refl
none_read no.WantOfMemory n = refl

pub after_unopened : (base : Base) (rows : ℕ) (old new : TracesByName) (before now : ℕ) (answer : Result (String Global) Status) (n : ℕ)
    → IfErr answer (IsUnopened base rows old new before now) → faults_after answer n ≡ n
after_unopened base rows old new before now (Ok text) n is = refl
after_unopened base rows old new before now (Err why) n is = by_cause is.cause
  where
    by_cause : IsOpeningRefusal (plant_text base.tags.items) (length base.tags.items) rows (old log_name) before now why ⊎ (why ≡ WantOfMemory)
        → faults_told why n ≡ n
    by_cause (inl refused) = subst (λ (s : Status). faults_told s n ≡ n) (sym refused.told) (none_read refused.reason n)
    by_cause (inr memory) = subst (λ (s : Status). faults_told s n ≡ n) (sym memory) refl

-- what the whole command returns
pub understood : {D : Type 0} (device : D → Device) (base : Base) (rows : List (List RawRow)) (old new : TracesByName)
    (before now stops_before stops_now : ℕ) (answer : Result (String Global) Status) (log : Option LogHistory)
    → IfSome log (IsRun device base rows old new before now stops_before stops_now answer)
    → (log ≡ None → IfErr answer (IsUnopened base (total_rows rows) old new before now)) → IfErr answer (λ why. IsOfOthers why → ⊥)
understood device base rows old new before now stops_before stops_now answer None run unopened =
    err_weaker answer (λ why is. no_opening base (total_rows rows) old new before now why is) (unopened refl)
understood device base rows old new before now stops_before stops_now answer (Some h) run unopened =
    no_run device base rows old new before now stops_before stops_now answer h run

-- what follows of what is there
pub some_weaker : {X : Type 0} {P Q : X → Type 0} (o : Option X) → ((x : X) → P x → Q x) → IfSome o P → IfSome o Q
some_weaker None follows p = tt
some_weaker (Some x) follows p = follows x p

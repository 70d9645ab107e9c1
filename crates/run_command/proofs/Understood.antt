-- No refusal of a session or of a drill is a status that only the printing, or the words of a command line, gives.
use Rattle.std.proofs.Common.{◌≡◌, ◌∙◌, inl, inr, ℕ, List, Option, None, Some, Result, Ok, Err, IfErr, String, Global, ap, refl, subst, sym}
use Rattle.std.specs.Prelude.{◌≢◌, IfSome, IsSomeAnd, length, slice_get}
use Rattle.plant_status.specs.declared.status.Status.{Status}
use Rattle.plant_status.specs.declared.status.Status.TheVariants.{BadWords, Done, WantOfMemory, WriteFault}
use Rattle.plant_files.specs.PlanRows as plan
use Rattle.plant_files.specs.{ToldFiles}
use Rattle.plant_store.specs.BookRefusals as group
use Rattle.plant_store.specs.Groups.{DeviceTraces}
use Rattle.plant_store.specs.{IsPlantRefusal, OfGroups, OfTags}
use Rattle.tag_base.specs.{Base}
use Rattle.value_rows.specs.{Query, RawRow}
use Rattle.collector_pool.specs.{WorkerNote}
use Rattle.collector_pool.specs.declared.work.Work.{Work}
use Rattle.session_audit.specs.{Item, tag_rows, takes_mismatch, take_of, LacksRow}
use Rattle.tag_cell.specs.{TagHistory, taken}
use Rattle.session_report.specs.{Session}
use Rattle.run_command.specs.Causes.{IsRefusalCause, IsSessionCause, OfRefusal, OfCopies, OfDevice, OfLimit, OfMemory, OfCommit, OfOpening, OfPull, OfRefresh, OfRoom, OfStep, OfStop, OfTake, OfTape}
use Rattle.run_command.specs.{InFirst, InPull, InReport, InSecond, IsDrillCause, IsDrilled, IsPhaseCause, drill_status, IsPromised}
use Rattle.run_command.specs.Runs as runs
use Rattle.run_command.proofs.DrillUndone.{kept_or_fault}

-- ---- a session

module _ (item_of : ℕ → ℕ → RawRow → Option Item) (turns_of : ℕ → ℕ) (base : Base) (before : DeviceTraces) (rows : List (List RawRow))
    (queries : List (List Query)) (quiet : Type 0) (notes : List WorkerNote) (s : Session) where
  -- a tape that lacks room is told as a mismatch
  no_room : {P : Type 0} (x : Status) → ((tag takes rows : ℕ) → x ≡ takes_mismatch tag takes rows → ⊥) → (tag : ℕ) (t : Option TagHistory)
      → IsSomeAnd t (λ t. (x ≡ takes_mismatch tag (length (taken t.tape.items)) (tag_rows tag rows)) × LacksRow take_of item_of rows tag t.tape.items)
      → P
  no_room x other tag (Some t) at = absurd (other tag _ _ at.0)
  no_room x other tag None at = absurd at

  refusal_no_done : IsRefusalCause item_of turns_of base before rows queries quiet notes s Done → ⊥
  refusal_no_done (OfOpening is) = is.changed
  refusal_no_done (OfTape is) = is
  refusal_no_done (OfStop within is) = is
  refusal_no_done (OfStep ended (OfTake (OfDevice tag same is))) = cc same
  refusal_no_done (OfStep ended (OfTake (OfRoom tag at))) = no_room Done (λ i n m same. cc same) tag (slice_get s.tags.items tag) at
  refusal_no_done (OfStep ended (OfTake (OfLimit tag number same is))) = cc same
  refusal_no_done (OfStep ended (OfCommit on_tapes is)) = cc (is.told)
  refusal_no_done (OfStep ended (OfRefresh recorded is)) = is.cause
  refusal_no_done (OfStep ended (OfPull recorded refreshed none is)) = is.cause
  refusal_no_done (OfMemory same) = cc same

  pub held_no_done : IsSessionCause item_of turns_of base before rows queries quiet notes s Done → ⊥
  held_no_done (OfRefusal is) = refusal_no_done is
  held_no_done (OfCopies came is none apart) = cc (apart.differs.why_is)

  refusal_no_fault : IsRefusalCause item_of turns_of base before rows queries quiet notes s WriteFault → ⊥
  refusal_no_fault (OfOpening is) = is.changed
  refusal_no_fault (OfTape is) = is
  refusal_no_fault (OfStop within is) = is
  refusal_no_fault (OfStep ended (OfTake (OfDevice tag same is))) = cc same
  refusal_no_fault (OfStep ended (OfTake (OfRoom tag at))) = no_room WriteFault (λ i n m same. cc same) tag (slice_get s.tags.items tag) at
  refusal_no_fault (OfStep ended (OfTake (OfLimit tag number same is))) = cc same
  refusal_no_fault (OfStep ended (OfCommit on_tapes is)) = cc (is.told)
  refusal_no_fault (OfStep ended (OfRefresh recorded is)) = is.cause
  refusal_no_fault (OfStep ended (OfPull recorded refreshed none is)) = is.cause
  refusal_no_fault (OfMemory same) = cc same

  pub held_no_fault : IsSessionCause item_of turns_of base before rows queries quiet notes s WriteFault → ⊥
  held_no_fault (OfRefusal is) = refusal_no_fault is
  held_no_fault (OfCopies came is none apart) = cc (apart.differs.why_is)

  refusal_no_words : IsRefusalCause item_of turns_of base before rows queries quiet notes s BadWords → ⊥
  refusal_no_words (OfOpening is) = is.changed
  refusal_no_words (OfTape is) = is
  refusal_no_words (OfStop within is) = is
  refusal_no_words (OfStep ended (OfTake (OfDevice tag same is))) = cc same
  refusal_no_words (OfStep ended (OfTake (OfRoom tag at))) = no_room BadWords (λ i n m same. cc same) tag (slice_get s.tags.items tag) at
  refusal_no_words (OfStep ended (OfTake (OfLimit tag number same is))) = cc same
  refusal_no_words (OfStep ended (OfCommit on_tapes is)) = cc (is.told)
  refusal_no_words (OfStep ended (OfRefresh recorded is)) = is.cause
  refusal_no_words (OfStep ended (OfPull recorded refreshed none is)) = is.cause
  refusal_no_words (OfMemory same) = cc same

  pub held_no_words : IsSessionCause item_of turns_of base before rows queries quiet notes s BadWords → ⊥
  held_no_words (OfRefusal is) = refusal_no_words is
  held_no_words (OfCopies came is none apart) = cc (apart.differs.why_is)

-- ---- no session

module _ (name plan_name : List ℕ) (told : ToldFiles) (old new : DeviceTraces) (before now : ℕ) where
  plant_no_done : (base : Base) → IsPlantRefusal base old new before now Done → ⊥
  plant_no_done base (OfTags is) = is
  plant_no_done base (OfGroups cores opened few (group.OfFault i same at)) = cc same
  plant_no_done base (OfGroups cores opened few (group.OfDamage i a byte same at)) = cc same
  plant_no_done base (OfGroups cores opened few (group.OfVersion i input found version same at)) = cc same
  plant_no_done base (OfGroups cores opened few (group.OfWindows i windows rows same at)) = cc same
  plant_no_done base (OfGroups cores opened few (group.OfMemory same)) = cc same

  pub unheld_no_done : runs.IsUnheld name plan_name told old new before now Done → ⊥
  unheld_no_done (runs.OfFiles (plan.OfFiles (plan.OfBase is)) untouched) = is
  unheld_no_done (runs.OfFiles (plan.OfFiles (plan.OfPlan base read is)) untouched) = is
  unheld_no_done (runs.OfFiles (plan.OfFiles (plan.OfCollector base plan read planned is)) untouched) = (is (λ same. cc same)).refused
  unheld_no_done (runs.OfFiles (plan.OfReader base plan rows read is) untouched) = (is (λ same. cc same)).first.refused
  unheld_no_done (runs.OfFiles (plan.OfRows base plan rows lists read asked is) untouched) = cc (is.told)
  unheld_no_done (runs.OfFiles (plan.OfMemory same) untouched) = cc same
  unheld_no_done (runs.OfOpening base plan rows queries planned (runs.OfPlant is kept)) = plant_no_done base is
  unheld_no_done (runs.OfOpening base plan rows queries planned (runs.OfWant same untouched)) = cc same

  plant_no_fault : (base : Base) → IsPlantRefusal base old new before now WriteFault → ⊥
  plant_no_fault base (OfTags is) = is
  plant_no_fault base (OfGroups cores opened few (group.OfFault i same at)) = cc same
  plant_no_fault base (OfGroups cores opened few (group.OfDamage i a byte same at)) = cc same
  plant_no_fault base (OfGroups cores opened few (group.OfVersion i input found version same at)) = cc same
  plant_no_fault base (OfGroups cores opened few (group.OfWindows i windows rows same at)) = cc same
  plant_no_fault base (OfGroups cores opened few (group.OfMemory same)) = cc same

  pub unheld_no_fault : runs.IsUnheld name plan_name told old new before now WriteFault → ⊥
  unheld_no_fault (runs.OfFiles (plan.OfFiles (plan.OfBase is)) untouched) = is
  unheld_no_fault (runs.OfFiles (plan.OfFiles (plan.OfPlan base read is)) untouched) = is
  unheld_no_fault (runs.OfFiles (plan.OfFiles (plan.OfCollector base plan read planned is)) untouched) = (is (λ same. cc same)).refused
  unheld_no_fault (runs.OfFiles (plan.OfReader base plan rows read is) untouched) = (is (λ same. cc same)).first.refused
  unheld_no_fault (runs.OfFiles (plan.OfRows base plan rows lists read asked is) untouched) = cc (is.told)
  unheld_no_fault (runs.OfFiles (plan.OfMemory same) untouched) = cc same
  unheld_no_fault (runs.OfOpening base plan rows queries planned (runs.OfPlant is kept)) = plant_no_fault base is
  unheld_no_fault (runs.OfOpening base plan rows queries planned (runs.OfWant same untouched)) = cc same

  plant_no_words : (base : Base) → IsPlantRefusal base old new before now BadWords → ⊥
  plant_no_words base (OfTags is) = is
  plant_no_words base (OfGroups cores opened few (group.OfFault i same at)) = cc same
  plant_no_words base (OfGroups cores opened few (group.OfDamage i a byte same at)) = cc same
  plant_no_words base (OfGroups cores opened few (group.OfVersion i input found version same at)) = cc same
  plant_no_words base (OfGroups cores opened few (group.OfWindows i windows rows same at)) = cc same
  plant_no_words base (OfGroups cores opened few (group.OfMemory same)) = cc same

  pub unheld_no_words : runs.IsUnheld name plan_name told old new before now BadWords → ⊥
  unheld_no_words (runs.OfFiles (plan.OfFiles (plan.OfBase is)) untouched) = is
  unheld_no_words (runs.OfFiles (plan.OfFiles (plan.OfPlan base read is)) untouched) = is
  unheld_no_words (runs.OfFiles (plan.OfFiles (plan.OfCollector base plan read planned is)) untouched) = (is (λ same. cc same)).refused
  unheld_no_words (runs.OfFiles (plan.OfReader base plan rows read is) untouched) = (is (λ same. cc same)).first.refused
  unheld_no_words (runs.OfFiles (plan.OfRows base plan rows lists read asked is) untouched) = cc (is.told)
  unheld_no_words (runs.OfFiles (plan.OfMemory same) untouched) = cc same
  unheld_no_words (runs.OfOpening base plan rows queries planned (runs.OfPlant is kept)) = plant_no_words base is
  unheld_no_words (runs.OfOpening base plan rows queries planned (runs.OfWant same untouched)) = cc same

-- so the words of a command line are never the answer of a run
pub understood : (name plan_name : List ℕ) (told : ToldFiles) (old new : DeviceTraces) (before now stops_before stops_now : ℕ)
    (session : Option Session) (answer : Result (String Global) Status)
    → (session ≡ None → IfErr answer (runs.IsUnheld name plan_name told old new before now))
    → IfSome session (IsPromised name plan_name told old new before now stops_before stops_now answer)
    → IfErr answer (λ why. why ≢ BadWords)
understood name plan_name told old new before now stops_before stops_now session (Ok text) unheld held = tt
understood name plan_name told old new before now stops_before stops_now None (Err why) unheld held =
    λ same. unheld_no_words name plan_name told old new before now
    (subst (runs.IsUnheld name plan_name told old new before now) same (unheld refl))
understood name plan_name told old new before now stops_before stops_now (Some s) (Err why) unheld held =
    λ same. held_no_words _ _ _ _ _ _ _ _ s (subst (IsSessionCause _ _ _ _ _ _ _ _ s) same held.cause)

-- ---- a drill

-- a drill reports a cause as it is, where it does not report want of memory
cause_is : (cause why : Status) → why ≢ WantOfMemory → why ≡ drill_status cause → cause ≡ why
cause_is cause why no_memory told = elim (kept_or_fault cause) [
  | inl kept ↦ sym (told ∙ kept)
  | inr fault ↦ absurd (no_memory (told ∙ ap drill_status fault.1))
]

module _ (number tags events : ℕ) (base : Base) (first second : Work) (notes : List WorkerNote) (s : Session) where
  phase_no_done : IsPhaseCause number tags events base first second notes s Done → ⊥
  phase_no_done (InFirst of_first is) = held_no_done _ _ _ _ _ _ _ _ s is
  phase_no_done (InSecond front more behind of_first ended is) = held_no_done _ _ _ _ _ _ _ _ s is
  phase_no_done (InPull of_both ended mixed up_to_date elsewhere) = cc (elsewhere.told)
  phase_no_done (InReport same) = cc same

  phase_no_fault : IsPhaseCause number tags events base first second notes s WriteFault → ⊥
  phase_no_fault (InFirst of_first is) = held_no_fault _ _ _ _ _ _ _ _ s is
  phase_no_fault (InSecond front more behind of_first ended is) = held_no_fault _ _ _ _ _ _ _ _ s is
  phase_no_fault (InPull of_both ended mixed up_to_date elsewhere) = cc (elsewhere.told)
  phase_no_fault (InReport same) = cc same

  phase_no_words : IsPhaseCause number tags events base first second notes s BadWords → ⊥
  phase_no_words (InFirst of_first is) = held_no_words _ _ _ _ _ _ _ _ s is
  phase_no_words (InSecond front more behind of_first ended is) = held_no_words _ _ _ _ _ _ _ _ s is
  phase_no_words (InPull of_both ended mixed up_to_date elsewhere) = cc (elsewhere.told)
  phase_no_words (InReport same) = cc same

module _ (number tags events : ℕ) (base : Base) (first second : Work) (s : Session) where
  pub drill_no_done : IsDrillCause number tags events base first second s Done → ⊥
  drill_no_done is = phase_no_done number tags events base first second s.workers.items s
      (subst (IsPhaseCause number tags events base first second s.workers.items s) (cause_is is.cause Done (λ memory. cc memory) is.told) is.phase)

  pub drill_no_fault : IsDrillCause number tags events base first second s WriteFault → ⊥
  drill_no_fault is = phase_no_fault number tags events base first second s.workers.items s
      (subst (IsPhaseCause number tags events base first second s.workers.items s) (cause_is is.cause WriteFault (λ memory. cc memory) is.told) is.phase)

  pub drill_no_words : IsDrillCause number tags events base first second s BadWords → ⊥
  drill_no_words is = phase_no_words number tags events base first second s.workers.items s
      (subst (IsPhaseCause number tags events base first second s.workers.items s) (cause_is is.cause BadWords (λ memory. cc memory) is.told) is.phase)

-- nor of a drill
pub drill_understood : (number tags events stops_before stops_now : ℕ) (session : Option Session) (answer : Result (String Global) Status)
    → (session ≡ None → IfErr answer (λ why. why ≡ WantOfMemory))
    → IfSome session (IsDrilled number tags events stops_before stops_now answer) → IfErr answer (λ why. why ≢ BadWords)
drill_understood number tags events stops_before stops_now session (Ok text) unheld held = tt
drill_understood number tags events stops_before stops_now None (Err why) unheld held = λ same. cc (same, unheld refl)
drill_understood number tags events stops_before stops_now (Some s) (Err why) unheld held =
    λ same. drill_no_words number tags events held.base held.first held.second s
    (subst (IsDrillCause number tags events held.base held.first held.second s) same held.cause)

-- What the status of a command reports once its answer was printed, and why a refusal of `shifts` is reported as it
-- is.
use Rattle.std.proofs.Common.{◌≡◌, inl, inr, ℕ, ◌^◌, ◌<◌, List, Result, Ok, Err, IfOk, IfErr, ◌≢◌, String, Global, string_bytes, sym, subst, ap, ◌∙◌}
use Rattle.byte_io.specs.Outside.{Outside}
use Rattle.disk_model.specs.{Rose}
use Rattle.plant_status.specs.{Unit}
use Rattle.plant_status.specs.declared.unit.Unit.TheVariants.{Tag, Group, Log}
use Rattle.plant_status.specs.declared.status.Status.{Status}
use Rattle.plant_status.specs.declared.status.Status.TheVariants.{Done, BadWords, BadText, BadRow, ReadFault, WriteFault, DeviceFault, Damaged, OtherTag, Limit, Mismatch, Halted, WantOfMemory, OtherPlant, BadName}
use Rattle.plant_files.specs.{ToldFiles, IsPrintedSo, IsTold}
use Rattle.plant_files.specs.Reading.{faults_after, faults_told}
use Rattle.plant_store.specs.{CountsDevices}
use Rattle.plant_store.specs.Groups.{DeviceTraces}
use Rattle.plant_more.specs.Shifts.{IsShiftsRefusal, OfBase, OfCalendar, OfTag, OfMemory}
use Rattle.plant_more.specs.{CountsFor}

-- the faults of files that an answer reports are those that its status reports, once it was printed
pub faults_so : (before now : Outside) (answer : Result (String Global) Status) (status : Status) (old new : ℕ)
    → new ≡ faults_after answer old → IfOk answer (λ text. IsPrintedSo (string_bytes text) before now status)
    → IfErr answer (λ why. (status ≡ why) × IsTold before now why) → new ≡ faults_told status old
faults_so before now (Ok text) status old new faults (inl done) told = faults ∙ ap (λ s. faults_told s old) (sym done.0)
faults_so before now (Ok text) status old new faults (inr cut) told = faults ∙ ap (λ s. faults_told s old) (sym cut.0)
faults_so before now (Err why) status old new faults printed told = faults ∙ ap (λ s. faults_told s old) (sym told.0)

-- the faults of the store that an answer reports are those that its status reports, once it was printed
pub counts_so : (IsRefusal : Status → Type 0) (before now : Outside) (answer : Result (String Global) Status) (status : Status)
    (old new : ℕ) → CountsDevices answer old new → IfErr answer IsRefusal
    → ((unit : Unit) → IsRefusal (DeviceFault unit) → Rose old new)
    → IfOk answer (λ text. IsPrintedSo (string_bytes text) before now status)
    → IfErr answer (λ why. (status ≡ why) × IsTold before now why) → CountsFor status old new
counts_so IsRefusal before now (Ok text) status old new counts refusal rose (inl done) told =
    subst (λ s. CountsFor s old new) (sym done.0) counts
counts_so IsRefusal before now (Ok text) status old new counts refusal rose (inr cut) told =
    subst (λ s. CountsFor s old new) (sym cut.0) counts
counts_so IsRefusal before now (Err why) status old new counts refusal rose printed told =
    subst (λ s. CountsFor s old new) (sym told.0) (of_refusal why refusal counts)
  where
    same : (s : Status) → ((u : Unit) → s ≢ DeviceFault u) → CountsDevices {T = String Global} (Err s) old new → new ≡ old
    same s other (inl is) = is
    same s other (inr fault) = absurd (other fault.0 fault.1)

    of_refusal : (s : Status) → IsRefusal s → CountsDevices {T = String Global} (Err s) old new → CountsFor s old new
    of_refusal (DeviceFault unit) is counts = rose unit is
    of_refusal Done is counts = same Done (λ i e. cc) counts
    of_refusal WriteFault is counts = same WriteFault (λ i e. cc) counts
    of_refusal BadWords is counts = same BadWords (λ i e. cc) counts
    of_refusal (BadText file rule place at) is counts = same (BadText file rule place at) (λ i e. cc) counts
    of_refusal (BadRow file row reason) is counts = same (BadRow file row reason) (λ i e. cc) counts
    of_refusal (ReadFault file) is counts = same (ReadFault file) (λ i e. cc) counts
    of_refusal (Damaged unit at byte) is counts = same (Damaged unit at byte) (λ i e. cc) counts
    of_refusal (OtherTag tag found wanted) is counts = same (OtherTag tag found wanted) (λ i e. cc) counts
    of_refusal (Limit what number) is counts = same (Limit what number) (λ i e. cc) counts
    of_refusal (Mismatch place kept told_one) is counts = same (Mismatch place kept told_one) (λ i e. cc) counts
    of_refusal (Halted worker) is counts = same (Halted worker) (λ i e. cc) counts
    of_refusal WantOfMemory is counts = same WantOfMemory (λ i e. cc) counts
    of_refusal (OtherPlant at) is counts = same (OtherPlant at) (λ i e. cc) counts
    of_refusal (BadName word) is counts = same (BadName word) (λ i e. cc) counts

-- a refusal of `shifts` is not Done, and no fault of the output; if it reports a device fault, one was counted
module _ (name calendar : List ℕ) (told : ToldFiles) (old new : DeviceTraces) (before now : ℕ) where
  pub shifts_not_done : IsShiftsRefusal name calendar told old new before now Done → ⊥
  shifts_not_done (OfBase refused same) = refused
  shifts_not_done (OfCalendar base read refused same) = refused
  shifts_not_done (OfTag base parts read dated refused) = refused
  shifts_not_done (OfMemory same) = cc

  pub shifts_no_fault : IsShiftsRefusal name calendar told old new before now WriteFault → ⊥
  shifts_no_fault (OfBase refused same) = refused
  shifts_no_fault (OfCalendar base read refused same) = refused
  shifts_no_fault (OfTag base parts read dated refused) = refused
  shifts_no_fault (OfMemory same) = cc

  pub shifts_rose : before < 2 ^ 64 → (unit : Unit) → IsShiftsRefusal name calendar told old new before now (DeviceFault unit)
      → Rose before now
  shifts_rose few unit (OfBase refused same) = absurd refused
  shifts_rose few unit (OfCalendar base read refused same) = absurd refused
  shifts_rose few (Tag i) (OfTag base parts read dated refused) = refused.cause few
  shifts_rose few (Group i) (OfTag base parts read dated refused) = absurd refused
  shifts_rose few Log (OfTag base parts read dated refused) = absurd refused
  shifts_rose few unit (OfMemory same) = cc

-- What is printed of a text or of a refusal, and what a status reports.
use Rattle.std.proofs.Common.{◌≡◌, inl, inr, ℕ, List, Result, Ok, Err, IfOk, IfErr, OnOk, OnErr, String, Global, string_bytes, sym, subst}
use Rattle.byte_io.specs.Outside.{Outside, IsWritten, IsCutShort}
use Rattle.plant_status.specs.declared.status.Status.{Status}
use Rattle.plant_status.specs.declared.status.Status.TheVariants.{Done, BadWords, BadText, BadRow, ReadFault, WriteFault, DeviceFault, Damaged, OtherTag, Limit, Mismatch, Halted, WantOfMemory, OtherPlant, BadName}
use Rattle.plant_files.specs.{IsPrintedSo, IsTold, PrintsSo, WhereDone}

module _ (IsText : List ℕ → Type 0) (IsRefusal : Status → Type 0) (before now : Outside) where
  -- a refusal whose line was printed
  pub told_so : (why : Status) → IsRefusal why → (IsRefusal Done → ⊥) → (IsRefusal WriteFault → ⊥) → IsTold before now why
      → PrintsSo IsText IsRefusal before now why
  told_so Done refusal no_done no_fault told = absurd (no_done refusal)
  told_so WriteFault refusal no_done no_fault told = absurd (no_fault refusal)
  told_so BadWords refusal no_done no_fault told = (refusal, told)
  told_so (BadText file rule place at) refusal no_done no_fault told = (refusal, told)
  told_so (BadRow file row reason) refusal no_done no_fault told = (refusal, told)
  told_so (ReadFault file) refusal no_done no_fault told = (refusal, told)
  told_so (DeviceFault unit) refusal no_done no_fault told = (refusal, told)
  told_so (Damaged unit at byte) refusal no_done no_fault told = (refusal, told)
  told_so (OtherTag tag found wanted) refusal no_done no_fault told = (refusal, told)
  told_so (Limit what number) refusal no_done no_fault told = (refusal, told)
  told_so (Mismatch place kept told_one) refusal no_done no_fault told = (refusal, told)
  told_so (Halted worker) refusal no_done no_fault told = (refusal, told)
  told_so WantOfMemory refusal no_done no_fault told = (refusal, told)
  told_so (OtherPlant at) refusal no_done no_fault told = (refusal, told)
  told_so (BadName word) refusal no_done no_fault told = (refusal, told)

  -- what was printed of a text, by the answer of the call that printed it
  pub written_so : {X E : Type 0} (answer : Result X E) (text : List ℕ) (status : Status) → OnOk answer (status ≡ Done)
      → OnErr answer (status ≡ WriteFault) → OnOk answer (IsWritten before now text) → OnErr answer (IsCutShort before now text)
      → IsPrintedSo text before now status
  written_so (Ok x) text status done fault whole cut = inl (done, whole)
  written_so (Err e) text status done fault whole cut = inr (fault, cut)

  -- a text that was printed, or a part of it
  pub printed_so : (text : List ℕ) (status : Status) → IsText text → IsPrintedSo text before now status
      → PrintsSo IsText IsRefusal before now status
  printed_so text status is (inl done) = subst (PrintsSo IsText IsRefusal before now) (sym done.0) (text, is, done.1)
  printed_so text status is (inr cut) = subst (PrintsSo IsText IsRefusal before now) (sym cut.0) (text, is, cut.1)

  -- an answer that was printed
  pub answered_so : (answer : Result (String Global) Status) (status : Status) → IfOk answer (λ text. IsText (string_bytes text))
      → IfErr answer IsRefusal → (IsRefusal Done → ⊥) → (IsRefusal WriteFault → ⊥)
      → IfOk answer (λ text. IsPrintedSo (string_bytes text) before now status)
      → IfErr answer (λ why. (status ≡ why) × IsTold before now why) → PrintsSo IsText IsRefusal before now status
  answered_so (Ok text) status is refusal no_done no_fault printed told = printed_so (string_bytes text) status is printed
  answered_so (Err why) status is refusal no_done no_fault printed told =
      subst (PrintsSo IsText IsRefusal before now) (sym told.0) (told_so why refusal no_done no_fault told.1)

-- a fact of an answer that is a text is one of a run that did all but the printing
pub done_so : (P : Type 0) (IsRefusal : Status → Type 0) (before now : Outside) (answer : Result (String Global) Status) (status : Status)
    → OnOk answer P → IfErr answer IsRefusal → (IsRefusal Done → ⊥) → (IsRefusal WriteFault → ⊥)
    → IfOk answer (λ text. IsPrintedSo (string_bytes text) before now status)
    → IfErr answer (λ why. (status ≡ why) × IsTold before now why) → WhereDone status P
done_so P IsRefusal before now (Ok text) status fact refusal no_done no_fault (inl done) told =
    subst (λ s. WhereDone s P) (sym done.0) fact
done_so P IsRefusal before now (Ok text) status fact refusal no_done no_fault (inr cut) told =
    subst (λ s. WhereDone s P) (sym cut.0) fact
done_so P IsRefusal before now (Err why) status fact refusal no_done no_fault printed told =
    subst (λ s. WhereDone s P) (sym told.0) (of_refusal why refusal)
  where
    of_refusal : (s : Status) → IsRefusal s → WhereDone s P
    of_refusal Done is = absurd (no_done is)
    of_refusal WriteFault is = absurd (no_fault is)
    of_refusal BadWords is = tt
    of_refusal (BadText file rule place at) is = tt
    of_refusal (BadRow file row reason) is = tt
    of_refusal (ReadFault file) is = tt
    of_refusal (DeviceFault unit) is = tt
    of_refusal (Damaged unit at byte) is = tt
    of_refusal (OtherTag tag found wanted) is = tt
    of_refusal (Limit what number) is = tt
    of_refusal (Mismatch place kept told_one) is = tt
    of_refusal (Halted worker) is = tt
    of_refusal WantOfMemory is = tt
    of_refusal (OtherPlant at) is = tt
    of_refusal (BadName word) is = tt

-- a fact of each refusal, and of what was printed, is one of the status once the answer was printed
pub ended_so : (P : Status → Type 0) (before now : Outside) (answer : Result (String Global) Status) (status : Status)
    → P Done → P WriteFault → IfErr answer P → IfOk answer (λ text. IsPrintedSo (string_bytes text) before now status)
    → IfErr answer (λ why. (status ≡ why) × IsTold before now why) → P status
ended_so P before now (Ok text) status done fault refused (inl is) told = subst P (sym is.0) done
ended_so P before now (Ok text) status done fault refused (inr cut) told = subst P (sym cut.0) fault
ended_so P before now (Err why) status done fault refused printed told = subst P (sym told.0) refused

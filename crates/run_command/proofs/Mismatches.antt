-- A refusal of an opening reports that it is one.
use Rattle.std.proofs.Common.{◌≡◌, ℕ, List, ap, subst, sym}
use Rattle.plant_status.specs.declared.mismatch.Place.TheVariants as place
use Rattle.plant_status.specs.{Seen, Unit}
use Rattle.plant_status.specs.declared.status.Status.{Status}
use Rattle.plant_status.specs.declared.status.Status.TheVariants.{Done, BadWords, BadText, BadRow, ReadFault, WriteFault, DeviceFault, Damaged, OtherTag, Limit, Mismatch, Halted, WantOfMemory, OtherPlant, BadName}
use Rattle.session_audit.specs.Openings.{IsMismatchOf, IsOpeningMismatch}
use Rattle.run_command.specs.Refusals.{IsOpening}

module _ {C K : Type 0} (unit_of : ℕ → Unit) (is : C → K → Type 0) (differs : C → K → Seen → Seen → Type 0) (opened : List C)
    (known : List K) where
  -- the unit that differs, and the status that reports it
  pub record Differing (why : Status) : Type 0 where
    pub number : ℕ
    pub kept : Seen
    pub told : Seen
    pub same : why ≡ Mismatch (place.Opening (unit_of number)) kept told
    pub at : IsMismatchOf is differs opened known number kept told

  pub differing : (s : Status) → IsOpeningMismatch unit_of is differs opened known s → Differing s
  differing (Mismatch (place.Opening unit) kept told) m =
      record { number = m.0; kept = kept; told = told; same = ap (λ u. Mismatch (place.Opening u) kept told) m.1; at = m.2 }
  differing (Mismatch (place.Takes tag) kept told) m = absurd m
  differing (Mismatch (place.Take tag at) kept told) m = absurd m
  differing (Mismatch (place.Ask tag at) kept told) m = absurd m
  differing (Mismatch (place.RowAsk group at) kept told) m = absurd m
  differing (Mismatch (place.Version group input) kept told) m = absurd m
  differing (Mismatch (place.Windows group) kept told) m = absurd m
  differing (Mismatch (place.Pull group input turn) kept told) m = absurd m
  differing (Mismatch (place.Turns group) kept told) m = absurd m
  differing (Mismatch (place.Log at) kept told) m = absurd m
  differing Done m = absurd m
  differing BadWords m = absurd m
  differing (BadText file rule at row) m = absurd m
  differing (BadRow file row reason) m = absurd m
  differing (ReadFault file) m = absurd m
  differing WriteFault m = absurd m
  differing (DeviceFault unit) m = absurd m
  differing (Damaged unit at byte) m = absurd m
  differing (OtherTag tag found wanted) m = absurd m
  differing (Limit what number) m = absurd m
  differing (Halted worker) m = absurd m
  differing WantOfMemory m = absurd m
  differing (OtherPlant at) m = absurd m
  differing (BadName word) m = absurd m

  pub mismatch_is_opening : (s : Status) → IsOpeningMismatch unit_of is differs opened known s → IsOpening s
  mismatch_is_opening s m = subst IsOpening (sym (differing s m).same) tt

-- Refusals that are checked before they are reported.
use Rattle.std.proofs.Common.{◌≡◌, ◌⊎◌, inl, inr, ℕ, List, Option, refl, sym, subst}
use Rattle.plant_status.specs.declared.status.Status.{Status}
use Rattle.plant_status.specs.declared.status.Status.TheVariants.{Mismatch, WantOfMemory}
use Rattle.plant_store.specs.Groups.{DeviceTraces}
use Rattle.tag_base.specs.{Base}
use Rattle.value_rows.specs.{Query, RawRow}
use Rattle.collector_pool.specs.{WorkerNote}
use Rattle.session_audit.specs.{Item}
use Rattle.session_report.specs.{Session}
use Rattle.run_command.specs.Causes.{IsRefusalCause, IsSessionCause, OfCopies, OfRefusal}
use Rattle.run_command.specs.{AreCopied, AsItCame, AsUncopied, IsChecked, MayBeUncopied, AtEachGroup}
use Rattle.run_command.specs.Refusals.{IsOpening, MayBeForeign}

-- a refusal that is checked is neither of an opening nor one that admits a take of no file
record IsPlain (why : Status) : Type 0 where
  pub opening : IsOpening why → ⊥
  pub foreign : MayBeForeign why → ⊥

uncopied_or_plain : (why : Status) → MayBeUncopied why ⊎ IsPlain why
uncopied_or_plain (Mismatch place kept told) = inl tt
uncopied_or_plain WantOfMemory = inl tt
uncopied_or_plain other = inr (record { opening = λ is. is; foreign = λ is. is })

module _ (base : Base) (s : Session) where
  -- a refused opening is reported as one
  pub opening_checked : (came now : Status) → IsChecked base s came now → IsOpening came → IsOpening now
  opening_checked came now (AsItCame same copied) is = subst IsOpening (sym same) is
  opening_checked came now (AsUncopied none apart) is = elim (uncopied_or_plain came) [
    | inl may ↦ absurd (none may)
    | inr plain ↦ absurd (plain.opening is)
  ]

  -- so is a refusal that admits a take of no file
  pub foreign_checked : (came now : Status) → IsChecked base s came now → MayBeForeign came → MayBeForeign now
  foreign_checked came now (AsItCame same copied) is = subst MayBeForeign (sym same) is
  foreign_checked came now (AsUncopied none apart) is = elim (uncopied_or_plain came) [
    | inl may ↦ absurd (none may)
    | inr plain ↦ absurd (plain.foreign is)
  ]

  -- want of memory is reported as it is
  pub memory_checked : (why : Status) → why ≡ WantOfMemory → IsChecked base s why why
  memory_checked why same = AsItCame refl (λ none. absurd (none (subst MayBeUncopied (sym same) tt)))

  -- if another refusal than these is reported, groups have first records
  pub copied_so : (came now : Status) → IsChecked base s came now → (MayBeUncopied now → ⊥) → AtEachGroup base s (λ i d g. AreCopied s d g)
  copied_so came now (AsItCame same copied) none = copied (λ may. none (subst MayBeUncopied (sym same) may))
  copied_so came now (AsUncopied checked apart) none = absurd (none (subst MayBeUncopied (sym apart.differs.why_is) tt))

  -- no other refusal is reported as one of an opening
  pub opening_reported : (came now : Status) → IsChecked base s came now → IsOpening now → IsOpening came
  opening_reported came now (AsItCame same copied) is = subst IsOpening same is
  opening_reported came now (AsUncopied none apart) is = absurd (subst IsOpening apart.differs.why_is is)

  -- what is reported of a refusal with a cause has one
  pub reported : (item_of : ℕ → ℕ → RawRow → Option Item) (turns_of : ℕ → ℕ) (before : DeviceTraces) (rows : List (List RawRow))
      (queries : List (List Query)) (quiet : Type 0) (notes : List WorkerNote) (came now : Status)
      → IsRefusalCause item_of turns_of base before rows queries quiet notes s came → IsChecked base s came now
      → IsSessionCause item_of turns_of base before rows queries quiet notes s now
  reported item_of turns_of before rows queries quiet notes came now is (AsItCame same copied) =
      OfRefusal (subst (IsRefusalCause item_of turns_of base before rows queries quiet notes s) (sym same) is)
  reported item_of turns_of before rows queries quiet notes came now is (AsUncopied none apart) = OfCopies came is none apart

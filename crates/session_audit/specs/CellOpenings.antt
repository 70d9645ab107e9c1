-- The copy of a cell's opening, and where the cell differs from it.
use Rattle.std.specs.Prelude.{◌≡◌, ◌≢◌, ℕ, ◌<◌, List, [], ◌∷◌, length, take, slice_get, Some, ⊤}
use Rattle.trend_num.specs.{Rec, TagDef}
use Rattle.plant_status.specs.{Seen}
use Rattle.plant_status.specs.declared.mismatch.Seen.TheVariants.{Def, Number, Summary}
use Rattle.plant_status.specs.declared.status.Status.{Status}
use Rattle.plant_status.specs.declared.unit.Unit.TheVariants.{Tag}
use Rattle.tag_cell.specs.{TagOpening, ToldCell}
use Rattle.session_audit.specs.declared.cell_opening.Kept.{Kept}
use Rattle.session_audit.specs.Openings.{IsOpeningMismatch}

-- the copy has a cell's definition and its opening
pub record IsCellCopied {D : Type 0} (c : ToldCell D) (k : Kept) : Type 0 where
  pub def : k.def ≡ c.def
  pub summary : k.opening.summary ≡ c.opening.summary
  pub records : k.opening.recs.items ≡ c.opening.recs.items
  pub moment : k.opening.moment ≡ c.opening.moment
  pub faults : k.opening.faults ≡ c.opening.faults

-- a tag has the definition and the opening of the copy
pub record IsTagAsKept (its : TagDef) (o : TagOpening) (k : Kept) : Type 0 where
  pub def : its ≡ k.def
  pub summary : o.summary ≡ k.opening.summary
  pub records : o.recs.items ≡ k.opening.recs.items
  pub moment : o.moment ≡ k.opening.moment
  pub faults : o.faults ≡ k.opening.faults

-- the same of a cell
abbrev pub IsCellAsKept : {D : Type 0} → ToldCell D → Kept → Type 0
IsCellAsKept c k = IsTagAsKept c.def c.opening k

-- ---- the first difference

-- the items that are compared in turn, before the records themselves
abbrev pub opening_items : TagDef → TagOpening → List Seen
opening_items def o =
    Def def ∷ Number o.faults ∷ Number o.moment ∷ Summary o.summary ∷ Number (length o.recs.items) ∷ []

-- an item that can be compared
abbrev pub IsItem : Seen → Type 0
IsItem (Def def) = ⊤
IsItem (Number number) = ⊤
IsItem (Summary summary) = ⊤
IsItem other = ⊥

-- the first place at which lists of items differ, and what each list has there
pub record FirstDiffer (found known : List Seen) (kept told : Seen) : Type 0 where
  pub place : ℕ
  pub before : take place found ≡ take place known
  pub kept_is : slice_get found place ≡ Some kept
  pub told_is : slice_get known place ≡ Some told
  pub differ : kept ≢ told

-- so many records are the same; then another record was found than the next known one, or none
pub record RecordsDiffer (found known : List Rec) (kept told : Seen) : Type 0 where
  pub same : ℕ
  pub prefix : take same found ≡ take same known
  pub next : slice_get found same ≢ slice_get known same
  pub kept_is : kept ≡ Number same
  pub told_is : told ≡ Number (length known)
  pub fewer : same < length known

-- the first difference: of the definition, the faults, the moment, the state and the number of records; otherwise, of
-- the records
pub data IsTagDifference (def : TagDef) (o : TagOpening) (k : Kept) (kept told : Seen) : Type 0 where
  OfItem : FirstDiffer (opening_items def o) (opening_items k.def k.opening) kept told → IsTagDifference def o k kept told
  OfRecords : opening_items def o ≡ opening_items k.def k.opening → RecordsDiffer o.recs.items k.opening.recs.items kept told
      → IsTagDifference def o k kept told

-- the same of a cell
abbrev pub IsCellDifference : {D : Type 0} → ToldCell D → Kept → Seen → Seen → Type 0
IsCellDifference c k kept told = IsTagDifference c.def c.opening k kept told

-- the cell of a tag is the first that differs from its copy
abbrev pub IsCellMismatch : {D : Type 0} → List (ToldCell D) → List Kept → Status → Type 0
IsCellMismatch cells known why = IsOpeningMismatch Tag IsCellAsKept IsCellDifference cells known why

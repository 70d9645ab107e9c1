-- The copy of a group's opening, and where its book differs from the copy.
use Rattle.std.specs.Prelude.{◌≡◌, ◌↔◌, ℕ, ◌<◌, Bool, true, List, [], ◌∷◌, ◌++◌, length, slice_get, slice_index_or, Some}
use Rattle.std.specs.List.{count_by}
use Rattle.trend_num.specs.{CalcValue}
use Rattle.plant_status.specs.declared.unit.Unit.TheVariants.{Group}
use Rattle.plant_status.specs.{Seen}
use Rattle.plant_status.specs.declared.mismatch.Seen.TheVariants.{Number}
use Rattle.plant_status.specs.declared.status.Status.{Status}
use Rattle.calc_refresh.specs.{GroupDefParts, lists_of}
use Rattle.group_book.specs.{GroupOpening, ToldBook}
use Rattle.session_audit.specs.declared.book_opening.KeptGroup.{KeptGroup}
use Rattle.session_audit.specs.OpeningNumbers.{AreApart}
use Rattle.session_audit.specs.Openings.{IsOpeningMismatch}

-- the copy has a book's group, definition and text, and its opening
pub record IsBookCopied {D : Type 0} (b : ToldBook D) (k : KeptGroup) : Type 0 where
  pub group : k.group ≡ b.group
  pub def : k.def ≡ b.def
  pub text : k.text.items ≡ b.text
  pub versions : k.opening.versions.items ≡ b.opening.versions.items
  pub rows : lists_of k.opening.rows.items ≡ lists_of b.opening.rows.items
  pub moment : k.opening.moment ≡ b.opening.moment
  pub faults : k.opening.faults ≡ b.opening.faults

-- ---- the same

-- the openings are the same: the same versions and rows, at the same moment, after as many faults
pub record IsSameOpening (o known : GroupOpening) : Type 0 where
  pub versions : o.versions.items ≡ known.versions.items
  pub rows : lists_of o.rows.items ≡ lists_of known.rows.items
  pub moment : o.moment ≡ known.moment
  pub faults : o.faults ≡ known.faults

-- a group has the number, the definition and the text of the copy
pub record IsDefinedSo (group : ℕ) (def : GroupDefParts) (text : List ℕ) (k : KeptGroup) : Type 0 where
  pub group_is : group ≡ k.group
  pub def_is : def ≡ k.def
  pub text_is : text ≡ k.text.items

-- a group has the definition and the opening of the copy
pub record IsGroupAsKept (group : ℕ) (def : GroupDefParts) (text : List ℕ) (o : GroupOpening) (k : KeptGroup) : Type 0 where
  pub defined : IsDefinedSo group def text k
  pub opened : IsSameOpening o k.opening

-- the same of a book
abbrev pub IsBookAsKept : {D : Type 0} → ToldBook D → KeptGroup → Type 0
IsBookAsKept b k = IsGroupAsKept b.group b.def b.text b.opening k

-- ---- what is compared in turn

-- the six parts of a definition, each marked if both have the same
pub record ArePartsOf (group : ℕ) (def : GroupDefParts) (text : List ℕ) (k : KeptGroup) (marks : List Bool) : Type 0 where
  pub six : length marks ≡ 6
  pub same_group : (slice_get marks 0 ≡ Some true) ↔ (group ≡ k.group)
  pub inputs : (slice_get marks 1 ≡ Some true) ↔ (def.inputs ≡ k.def.inputs)
  pub start : (slice_get marks 2 ≡ Some true) ↔ (def.start ≡ k.def.start)
  pub period : (slice_get marks 3 ≡ Some true) ↔ (def.period ≡ k.def.period)
  pub calcs : (slice_get marks 4 ≡ Some true) ↔ (def.calcs ≡ k.def.calcs)
  pub same_text : (slice_get marks 5 ≡ Some true) ↔ (text ≡ k.text.items)

-- how many windows the rows have
abbrev pub windows_of : List (List CalcValue) → ℕ
windows_of rows = length (slice_index_or rows 0 [])

-- the numbers of an opening: the faults, the moment, each version, the windows, and the number of rows
abbrev pub items_of : GroupOpening → List ℕ
items_of o =
    let rows = lists_of o.rows.items in
    o.faults ∷ o.moment ∷ o.versions.items ++ windows_of rows ∷ length rows ∷ []

-- how many of the first places of two lists have the same in both; each such place is marked
pub record AgreeIn {A : Type 0} (places : ℕ) (found known : List A) (n : ℕ) : Type 0 where
  pub marks : List Bool
  pub as_many : length marks ≡ places
  pub each : (i : ℕ) → i < places → (slice_get marks i ≡ Some true) ↔ (slice_get found i ≡ slice_get known i)
  pub count : n ≡ count_by (λ m. m) marks

-- ---- the first difference

-- fewer than six parts of the definition are the same
pub record PartsDiffer (group : ℕ) (def : GroupDefParts) (text : List ℕ) (k : KeptGroup) (kept told : Seen) : Type 0 where
  pub marks : List Bool
  pub parts : ArePartsOf group def text k marks
  pub fewer : count_by (λ m. m) marks < 6
  pub kept_is : kept ≡ Number (count_by (λ m. m) marks)
  pub told_is : told ≡ Number 6

-- fewer rows are the same than the copy has
pub record RowsDiffer (found known : List (List CalcValue)) (kept told : Seen) : Type 0 where
  pub same : ℕ
  pub agree : AgreeIn (length known) found known same
  pub fewer : same < length known
  pub kept_is : kept ≡ Number same
  pub told_is : told ≡ Number (length known)

-- two openings differ: first in a number, otherwise in the rows
pub data DifferSo (o known : GroupOpening) (kept told : Seen) : Type 0 where
  InNumber : (place : ℕ) → AreApart place (items_of o) (items_of known) kept told → DifferSo o known kept told
  InRows : items_of o ≡ items_of known → RowsDiffer (lists_of o.rows.items) (lists_of known.rows.items) kept told
      → DifferSo o known kept told

-- a group differs from its copy: first in its definition, otherwise in its opening
pub data IsGroupDifference (group : ℕ) (def : GroupDefParts) (text : List ℕ) (o : GroupOpening) (k : KeptGroup) (kept told : Seen)
    : Type 0 where
  OfDefinition : PartsDiffer group def text k kept told → IsGroupDifference group def text o k kept told
  OfOpening : IsDefinedSo group def text k → DifferSo o k.opening kept told → IsGroupDifference group def text o k kept told

-- the same of a book
abbrev pub IsBookDifference : {D : Type 0} → ToldBook D → KeptGroup → Seen → Seen → Type 0
IsBookDifference b k kept told = IsGroupDifference b.group b.def b.text b.opening k kept told

-- the book of a group is the first that differs from its copy
abbrev pub IsBookMismatch : {D : Type 0} → List (ToldBook D) → List KeptGroup → Status → Type 0
IsBookMismatch books known why = IsOpeningMismatch Group IsBookAsKept IsBookDifference books known why

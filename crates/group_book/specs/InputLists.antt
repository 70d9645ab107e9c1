-- Lists of records, one for each input of a group, and what a refresh takes of them.
use Rattle.std.specs.Prelude.{◌≡◌, ℕ, ◌+◌, ◌<◌, ◌≤◌, List, [], All, drop, length, map, slice_index, slice_index_or, Some}
use Rattle.trend_num.specs.{Rec}
use Rattle.calc_refresh.specs.declared.refusal.SheetNo.TheVariants as sheet
use Rattle.calc_refresh.specs.{fault_after, IsCopy}
use Rattle.tag_cell.specs.{Pulled}
use Rattle.group_book.specs.declared.refusal.RefreshNo.{RefreshNo}
use Rattle.group_book.specs.declared.refusal.RefreshNo.TheVariants.{Ahead, CellLimit, CopyLimit, WantOfMemory}
use Rattle.group_book.specs.Tapes.{uncut}
use Rattle.group_book.specs.Told.{ToldBook, pulled_records, versions_of}

-- the lists of these tags, taken from one list for each tag of a plant
abbrev pub lists_at : List (List Rec) → List ℕ → List (List Rec)
lists_at records tags = map (λ tag. slice_index_or records tag []) tags

-- what was pulled from a list is what it has after the first `from` records
pub record IsPullOf (list : List Rec) (from : ℕ) (p : Pulled) : Type 0 where
  pub ends : p.upto ≡ length list
  pub records : p.recs.items ≡ drop from list
  pub copied : IsCopy p.recs.items
  pub goes_on : p.upto ≡ from + length p.recs.items

-- the same of each of these lists, where `versions` says how many records of each were taken into account
pub record ArePullsOf (lists : List (List Rec)) (versions : List ℕ) (ps : List Pulled) : Type 0 where
  pub as_many : length ps ≡ length lists
  pub records : pulled_records ps ≡ uncut versions lists
  pub ends : map (λ p. p.upto) ps ≡ map length lists
  pub copied : All IsCopy (pulled_records ps)
  pub goes_on : (i : ℕ) (p : Pulled) → i < length ps
      → (slice_index_or ps i p).upto ≡ slice_index versions i + length (slice_index_or ps i p).recs.items

-- an input has taken more records into account than its list has
abbrev pub IsPullRefusal : List Rec → ℕ → ℕ → RefreshNo → Type 0
IsPullRefusal list input from (Ahead at version records) =
    (at ≡ input) × (version ≡ from) × (records ≡ length list) × (records < from)
IsPullRefusal list input from (CellLimit cells) = ⊥
IsPullRefusal list input from (CopyLimit records) = ⊥
IsPullRefusal list input from WantOfMemory = Unit {0}

-- the same of the first of these lists of which it is so
abbrev pub IsPullAhead : List (List Rec) → List ℕ → RefreshNo → Type 0
IsPullAhead lists versions (Ahead input version records) = (input < length lists) × (version ≡ slice_index versions input)
    × (records ≡ length (slice_index_or lists input [])) × (records < version)
    × ((k : ℕ) → k < input → slice_index versions k ≤ length (slice_index_or lists k []))
IsPullAhead lists versions (CellLimit cells) = ⊥
IsPullAhead lists versions (CopyLimit records) = ⊥
IsPullAhead lists versions WantOfMemory = Unit {0}

-- why a book does not take these lists into account: the version of an input is above the length of its list, or the
-- sheet would have this many cells or records, too many, with the records that it lacks
abbrev pub IsListsRefusal : {D : Type 0} → List (List Rec) → ToldBook D → RefreshNo → Type 0
IsListsRefusal lists book (Ahead input version records) = IsPullAhead lists (versions_of book) (Ahead input version records)
IsListsRefusal lists book (CellLimit cells) =
    fault_after book.sheet (uncut (versions_of book) lists) ≡ Some (sheet.CellLimit cells)
IsListsRefusal lists book (CopyLimit records) =
    fault_after book.sheet (uncut (versions_of book) lists) ≡ Some (sheet.CopyLimit records)
IsListsRefusal lists book WantOfMemory = Unit {0}

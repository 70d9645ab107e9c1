-- What groups pulled of the tags of their inputs, and what they have of them.
use Rattle.std.specs.Prelude.{◌≡◌, ℕ, ◌<◌, ◌≤◌, List, [], ◌∷◌, drop, length, slice_get, slice_index, slice_index_or, Option, None, Some, take}
use Rattle.plant_status.specs.declared.mismatch.Place.TheVariants.{Pull, Version}
use Rattle.plant_status.specs.declared.status.Status.{Status}
use Rattle.plant_status.specs.declared.status.Status.TheVariants.{Mismatch}
use Rattle.trend_num.specs.{Rec}
use Rattle.tag_cell.specs.{Entry, ToldCell as Cell}
use Rattle.session_audit.specs.CellOpenings.{RecordsDiffer}
use Rattle.group_book.specs.{Turn, ToldBook as Book}
use Rattle.session_audit.specs.declared.group_pulls.Found.{Found}
use Rattle.session_audit.specs.OpeningNumbers.{AreApart}
use Rattle.session_audit.specs.GroupTapes.{pulled, reached}

-- ---- the same

-- A group has of an input what it pulled of the tag: each pull on the tag's tape ended at the version of the refresh with
-- its number, and the copy is the start of the tag's records.
pub record IsInputPulled (group input : ℕ) (tape : List Entry) (records : List Rec) (turns : List Turn) (copies : List (List Rec))
    : Type 0 where
  pub ends : pulled group tape ≡ reached input turns
  pub copy : slice_index_or copies input [] ≡ take (length (slice_index_or copies input [])) records

-- the same of a cell and a book
abbrev pub IsPulledFrom : {C D : Type 0} → ℕ → ℕ → Cell C → Book D → Type 0
IsPulledFrom group input cell book = IsInputPulled group input cell.tape cell.state.records book.tape book.sheet.copies

-- a book has of each input what its group pulled; these are the tags of the inputs
pub record AreInputsPulled {C D : Type 0} (group : ℕ) (tags : List ℕ) (cells : List (Cell C)) (book : Book D) : Type 0 where
  pub each : (input : ℕ) (c : Cell C) → input < length tags
      → IsPulledFrom group input (slice_index_or cells (slice_index tags input) c) book

-- each group has what it pulled
pub record ArePulled {C D : Type 0} (inputs : List (List ℕ)) (cells : List (Cell C)) (books : List (Book D)) : Type 0 where
  pub each : (group : ℕ) (b : Book D) → group < length books
      → AreInputsPulled group (slice_index_or inputs group []) cells (slice_index_or books group b)

-- ---- the first difference

-- A pull ended elsewhere than the refresh with its number, or only one of the two exists. Or all pulls ended where the
-- refreshes did, but the records of the copy are not the start of the tag's records.
abbrev pub IsInputApart : ℕ → ℕ → List Entry → List Rec → List Turn → List (List Rec) → Status → Type 0
IsInputApart group input tape records turns copies (Mismatch (Pull its_group its_input turn) kept told) = (its_group ≡ group)
    × (its_input ≡ input) × AreApart turn (pulled group tape) (reached input turns) kept told
IsInputApart group input tape records turns copies (Mismatch (Version its_group its_input) kept told) = (its_group ≡ group)
    × (its_input ≡ input) × (pulled group tape ≡ reached input turns)
    × RecordsDiffer records (slice_index_or copies input []) kept told
IsInputApart group input tape records turns copies other = ⊥

-- the same of a cell and a book
abbrev pub IsInputMismatch : {C D : Type 0} → ℕ → ℕ → Cell C → Book D → Status → Type 0
IsInputMismatch group input cell book s = IsInputApart group input cell.tape cell.state.records book.tape book.sheet.copies s

-- the mismatch is at one input of a group; of those before it the book has what its group pulled
pub record IsMismatchOf {C D : Type 0} (group : ℕ) (tags : List ℕ) (cells : List (Cell C)) (book : Book D) (s : Status)
    : Type 0 where
  pub input : ℕ
  pub cell : Cell C
  pub within : input < length tags
  pub front : (k : ℕ) (c : Cell C) → k < input → IsPulledFrom group k (slice_index_or cells (slice_index tags k) c) book
  pub there : slice_get cells (slice_index tags input) ≡ Some cell
  pub differs : IsInputMismatch group input cell book s

-- the mismatch is of one group; those before it have what they pulled
pub record IsPullMismatch {C D : Type 0} (inputs : List (List ℕ)) (cells : List (Cell C)) (books : List (Book D)) (s : Status)
    : Type 0 where
  pub group : ℕ
  pub book : Book D
  pub there : slice_get books group ≡ Some book
  pub front : (k : ℕ) (b : Book D) → k < group → AreInputsPulled k (slice_index_or inputs k []) cells (slice_index_or books k b)
  pub differs : IsMismatchOf group (slice_index_or inputs group []) cells book s

-- ---- from a place of a tape on

-- the first of the numbers on a tape from a place on, if there is one; `numbers` has the numbers of a tape
abbrev pub IsNextOf : {E : Type 0} → (List E → List ℕ) → List E → ℕ → Option Found → Type 0
IsNextOf numbers tape from None = numbers (drop from tape) ≡ []
IsNextOf numbers tape from (Some f) = (numbers (drop from tape) ≡ f.number ∷ numbers (drop f.past tape))
    × (from < f.past) × (f.past ≤ length tape)

-- Groups that are refreshed from the cells of their inputs.
use Rattle.std.specs.Prelude.{◌≡◌, ℕ, ◌+◌, ◌<◌, List, [], ◌∷◌, ◌++◌, All, IsSome, None, false, length, map, slice_index, slice_index_or, ⊤}
use Rattle.trend_num.specs.{Rec}
use Rattle.calc_refresh.specs.{fault_of}
use Rattle.tag_cell.specs.{Entry, ToldCell as Cell, durable_records}
use Rattle.tag_cell.specs.declared.entry.Entry.TheVariants.{Pull}
use Rattle.group_book.specs.{Turn, ToldBook as Book, versions_of}
use Rattle.group_book.specs.declared.turn.Turn.TheVariants.{Save}
use Rattle.session_audit.specs.GroupTapes.{refreshes}

-- ---- records that no crash takes away

-- the records of each tag that no crash takes away
abbrev pub durable_lists : {C : Type 0} → List (Cell C) → List (List Rec)
durable_lists cells = map durable_records cells

-- how many of these each of the tags has
abbrev pub durable_numbers : List (List Rec) → List ℕ → List ℕ
durable_numbers durables tags = map (λ tag. length (slice_index_or durables tag [])) tags

-- ---- what a refresh leaves

-- an entry that is a pull
abbrev pub IsPull : Entry → Type 0
IsPull (Pull group from upto) = ⊤
IsPull other = ⊥

-- a cell's tape has gained pulls, and nothing else has changed
pub record IsPulledMore {C : Type 0} (old new : Cell C) : Type 0 where
  pub more : List Entry
  pub each : All IsPull more
  pub changed : new ≡ record old { tape = old.tape ++ more }

-- a tape ends in a save
pub record EndsInSave (tape : List Turn) : Type 0 where
  pub before : List Turn
  pub number : ℕ
  pub moment : ℕ
  pub is : tape ≡ before ++ Save number moment ∷ []

-- a book was saved: its refreshes and its sheet have not changed, its device has not failed, and if it has a device, its
-- tape ends in a save
pub record IsSavedOn {D : Type 0} (old new : Book D) : Type 0 where
  pub same_refreshes : refreshes new.tape ≡ refreshes old.tape
  pub same_sheet : new.sheet ≡ old.sheet
  pub usable : new.failed ≡ false
  pub last : IsSome new.dev → EndsInSave new.tape

-- a book has made its turns and one more, and has as many records of each input as no crash takes away of the tag; its
-- sheet is within the limits; if it has a device, it was saved after that, and the device has not failed
pub record IsRefreshedTo {D : Type 0} (durables : List (List Rec)) (tags : List ℕ) (turns : ℕ) (book : Book D) : Type 0 where
  pub refreshed : length (refreshes book.tape) ≡ turns + 1
  pub versions : versions_of book ≡ durable_numbers durables tags
  pub within : fault_of book.sheet ≡ None
  pub usable : book.failed ≡ false
  pub saved : IsSome book.dev → EndsInSave book.tape

-- each book is like that
pub record AreBooksRefreshed {D : Type 0} (durables : List (List Rec)) (inputs : List (List ℕ)) (turns : List ℕ)
    (books : List (Book D)) : Type 0 where
  pub each : (group : ℕ) (b : Book D) → group < length books
      → IsRefreshedTo durables (slice_index_or inputs group []) (slice_index turns group) (slice_index_or books group b)

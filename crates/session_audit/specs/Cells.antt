-- Cells that have gained entries.
use Rattle.std.specs.Prelude.{◌≡◌, ℕ, ◌<◌, List, ◌++◌, All, Option, ⊤}
use Rattle.trend_num.specs.{IsTagQuery}
use Rattle.value_rows.specs.{Query}
use Rattle.value_rows.specs.declared.asked.Query.TheVariants as query
use Rattle.tag_cell.specs.{Entry, ToldCell}
use Rattle.tag_cell.specs.declared.entry.Entry.TheVariants.{Take, Ask, Commit}
use Rattle.session_audit.specs.declared.agenda.Item.{Item}
use Rattle.session_audit.specs.declared.kind.Shown.{Shown}
use Rattle.session_audit.specs.Found.{Reached}
use Rattle.session_audit.specs.Each.{AreEach}
use Rattle.session_audit.specs.Workers.{AreTapesBegun, AreTapesFound, AreTapesWhole}

-- ---- entries by their kind

abbrev pub IsTakeEntry : Entry → Type 0
IsTakeEntry (Take collector row point held records) = ⊤
IsTakeEntry other = ⊥

abbrev pub IsAskEntry : Entry → Type 0
IsAskEntry (Ask reader row asked reply) = ⊤
IsAskEntry other = ⊥

abbrev pub IsCommitEntry : Entry → Type 0
IsCommitEntry (Commit moment acked) = ⊤
IsCommitEntry other = ⊥

-- ---- cells that have gained entries

-- the tape has gained entries of a kind; the definition and the opening stay
pub record IsLonger {D : Type 0} (IsOf : Entry → Type 0) (old new : ToldCell D) : Type 0 where
  pub more : List Entry
  pub each : All IsOf more
  pub tape : new.tape ≡ old.tape ++ more
  pub same_def : new.def ≡ old.def
  pub same_opening : new.opening ≡ old.opening

-- each cell has gained entries like that
abbrev pub AreLonger : {D : Type 0} → (Entry → Type 0) → List (ToldCell D) → List (ToldCell D) → Type 0
AreLonger IsOf old new = AreEach (IsLonger IsOf) old new

-- ---- what their tapes show of workers

abbrev pub cell_tape : {D : Type 0} → ToldCell D → List Entry
cell_tape c = c.tape

-- the progress of each worker agrees with each tape
abbrev pub AreAllFound : {D : Type 0} → (Entry → Option Shown) → List (ToldCell D) → List Reached → Type 0
AreAllFound work cells works = AreTapesFound cell_tape work cells works

-- each tape shows exactly the rows of each worker that are due there, and none of any other worker
abbrev pub AreAllShown : {D A : Type 0} → (Entry → Option Shown) → (ℕ → ℕ → A → Option Item) → List (List A) → List (ToldCell D)
    → Type 0
AreAllShown work item_of files cells = AreTapesWhole cell_tape work item_of files cells

-- each tape shows, of each worker, the first of its rows that are due there
abbrev pub AreAllBegun : {D A : Type 0} → (Entry → Option Shown) → (ℕ → ℕ → A → Option Item) → List (List A) → List (ToldCell D)
    → Type 0
AreAllBegun work item_of files cells = AreTapesBegun cell_tape work item_of files cells

-- a question about a tag is about one of so many tags, with times in range; any other question passes
abbrev pub IsKnownAsk : ℕ → Query → Type 0
IsKnownAsk tags (query.Tag tag asked) = (tag < tags) × IsTagQuery asked
IsKnownAsk tags other = ⊤

-- the times of a question about a tag are in range; any other question passes
abbrev pub IsFitAsk : Query → Type 0
IsFitAsk (query.Tag tag asked) = IsTagQuery asked
IsFitAsk other = ⊤

-- Books that have gained turns.
use Rattle.std.specs.Prelude.{◌≡◌, ℕ, ◌<◌, List, ◌++◌, All, ⊤}
use Rattle.value_rows.specs.{Query}
use Rattle.value_rows.specs.declared.asked.Query.TheVariants as query
use Rattle.group_book.specs.{Turn, ToldBook}
use Rattle.group_book.specs.declared.turn.Turn.TheVariants.{Ask}

-- the tape of a book
abbrev pub book_tape : {D : Type 0} → ToldBook D → List Turn
book_tape b = b.tape

-- a question for a value is about one of so many groups; any other question passes
abbrev pub IsKnownRowAsk : ℕ → Query → Type 0
IsKnownRowAsk groups (query.Row group calc k) = group < groups
IsKnownRowAsk groups other = ⊤

-- ---- books that have gained turns

-- a turn that is a question
abbrev pub IsAsk : Turn → Type 0
IsAsk (Ask reader row calc k reply) = ⊤
IsAsk other = ⊥

-- a turn that is no question
abbrev pub IsNoAsk : Turn → Type 0
IsNoAsk (Ask reader row calc k reply) = ⊥
IsNoAsk other = ⊤

-- the tape has gained questions, and nothing else has changed
pub record IsAskedMore {D : Type 0} (old new : ToldBook D) : Type 0 where
  pub more : List Turn
  pub each : All IsAsk more
  pub changed : new ≡ record old { tape = old.tape ++ more }

-- the tape has gained turns that are no questions; the group, its definition, its tags and its opening stay
pub record IsRefreshedMore {D : Type 0} (old new : ToldBook D) : Type 0 where
  pub more : List Turn
  pub each : All IsNoAsk more
  pub tape : new.tape ≡ old.tape ++ more
  pub same_group : new.group ≡ old.group
  pub same_def : new.def ≡ old.def
  pub same_text : new.text ≡ old.text
  pub same_tags : new.tags ≡ old.tags
  pub same_opening : new.opening ≡ old.opening

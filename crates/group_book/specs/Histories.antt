-- Legal group histories: each turn on the tape is true.
use Rattle.std.specs.Prelude.{◌≡◌, ◌↔◌, ℕ, ◌+◌, ◌-◌, ◌*◌, ◌^◌, ◌<◌, ◌≤◌, min, Bool, true, false, List, [], ◌∷◌, All, length, map, slice_index, slice_get, Option, None, Some, IfSome, IsSome, nat_lt, if◌then◌else◌}
use Rattle.trend_num.specs.{Rec, CalcValue}
use Rattle.calc_check.specs.Group.{Group}
use Rattle.sheet_law.specs.{Grid, IsInRange, complete_windows, IsScratch, column, due_below, is_due, values_at}
use Rattle.calc_refresh.specs.{lists_of}
use Rattle.group_layout.specs.{cell_of}
use Rattle.group_book.specs.declared.turn.Turn.{Turn}
use Rattle.group_book.specs.declared.turn.Turn.TheVariants.{Refresh, Ask, Save}
use Rattle.group_book.specs.declared.history.GroupOpening.{GroupOpening}
use Rattle.group_book.specs.Tapes.{BookWalk, book_start, after_turn, book_walked, cut, uncut}

-- the value of a calculation in a window from scratch, if there are such a calculation and such a complete window
abbrev pub scratch_at : Group → Grid → List (List Rec) → ℕ → ℕ → Option CalcValue
scratch_at g w rss calc k = if nat_lt k (complete_windows w rss) then slice_get (values_at g w rss k) calc else None

-- the opening is right: its rows are those from scratch on the first records of the copies, as many as its versions say
abbrev pub IsRight : Group → Grid → GroupOpening → List (List Rec) → Type 0
IsRight g w o copies = IsScratch g w (cut o.versions.items copies) (lists_of o.rows.items)

-- all values of these rows are in the range of numbers
pub record AreValuesInRange (rows : List (List CalcValue)) : Type 0 where
  pub each : (calc k : ℕ) (v : CalcValue) → cell_of rows calc k ≡ Some v → IsInRange v

-- whether the records behind those of the opening make a window due: it was not complete then, or they touch it
abbrev pub is_due_since : Grid → GroupOpening → List (List Rec) → ℕ → Bool
is_due_since w o rss k = is_due w (cut o.versions.items rss) (uncut o.versions.items rss) k

-- What the rows of a group are over these records, whether or not the opening is right. There is a row for each
-- calculation, with one value for each complete window. A window that the records since the opening made due has its
-- values from scratch. Any other window has the values of the opening.
pub record AreRowsOver (g : Group) (grid : Grid) (o : GroupOpening) (rss : List (List Rec)) (rows : List (List CalcValue)) : Type 0 where
  pub calcs : length rows ≡ length g.calcs
  pub windows : All (λ row. length row ≡ complete_windows grid rss) rows
  pub due : (k : ℕ) → k < complete_windows grid rss → is_due_since grid o rss k ≡ true
      → column k rows ≡ map Some (values_at g grid rss k)
  pub others : (k : ℕ) → is_due_since grid o rss k ≡ false → column k rows ≡ column k (lists_of o.rows.items)

-- versions that never fall
pub record NeverFall (old new : List ℕ) : Type 0 where
  pub inputs : length new ≡ length old
  pub rises : (i : ℕ) → i < length old → slice_index old i ≤ slice_index new i

-- a save has the number after that of the last one, and a later moment
pub record IsNextSave (w : BookWalk) (number moment : ℕ) : Type 0 where
  pub next : IfSome w.number (λ last. number ≡ last + 1)
  pub later : w.moment < moment

-- The answer to a question at these versions. There is a value exactly where there are such a calculation and such a
-- complete window. In a window that the records since the opening made due it is the value from scratch, and in any
-- other the value of the opening. If the opening is right, it is the value from scratch in each window.
pub record IsTrueReply (g : Group) (grid : Grid) (o : GroupOpening) (copies : List (List Rec)) (versions : List ℕ)
    (calc k : ℕ) (reply : Option CalcValue) : Type 0 where
  pub there : IsSome reply ↔ ((calc < length g.calcs) × (k < complete_windows grid (cut versions copies)))
  pub due : is_due_since grid o (cut versions copies) k ≡ true → reply ≡ scratch_at g grid (cut versions copies) calc k
  pub others : is_due_since grid o (cut versions copies) k ≡ false → reply ≡ cell_of (lists_of o.rows.items) calc k
  pub value : IsRight g grid o copies → reply ≡ scratch_at g grid (cut versions copies) calc k

-- a turn is true at its place on the tape
abbrev pub BookTurnFits : Group → Grid → GroupOpening → List (List Rec) → BookWalk → Turn → Type 0
BookTurnFits g grid o copies w (Refresh versions) = NeverFall w.versions versions.items
BookTurnFits g grid o copies w (Ask reader row calc k reply) = IsTrueReply g grid o copies w.versions calc k reply
BookTurnFits g grid o copies w (Save number moment) = IsNextSave w number moment

-- each of these turns is true at its place
abbrev pub BookTurnsFit : Group → Grid → GroupOpening → List (List Rec) → BookWalk → List Turn → Type 0
BookTurnsFit g grid o copies w [] = Unit {0}
BookTurnsFit g grid o copies w (e ∷ es) = BookTurnFits g grid o copies w e × BookTurnsFit g grid o copies (after_turn w e) es

-- A legal group history. At the end the versions are those of the last refresh, and each copy has as many records as
-- its version says. If the opening is right, the rows are from scratch.
pub record IsBookLegal (g : Group) (grid : Grid) (o : GroupOpening) (tape : List Turn) (versions : List ℕ)
    (copies : List (List Rec)) (rows : List (List CalcValue)) : Type 0 where
  pub turns : BookTurnsFit g grid o copies (book_start o) tape
  pub last : versions ≡ (book_walked (book_start o) tape).versions
  pub copied : versions ≡ map length copies
  pub scratch : IsRight g grid o copies → IsScratch g grid copies rows

-- how many values a refresh from one of these versions to the other evaluates: one for each calculation in each window
-- that is due
abbrev pub evaluated_between : Group → Grid → List (List Rec) → List ℕ → List ℕ → ℕ
evaluated_between g w copies from to =
    due_below w (cut from copies) (uncut from (cut to copies)) (complete_windows w (cut to copies)) * length g.calcs

-- How many values the refreshes on a tape evaluate, and `count` before them. `now` has the versions so far. The count
-- stays at 2^64 - 1.
abbrev pub evaluated_on : Group → Grid → List (List Rec) → List ℕ → ℕ → List Turn → ℕ
evaluated_on g w copies now count [] = count
evaluated_on g w copies now count (Refresh versions ∷ es) =
    evaluated_on g w copies versions.items (min (count + evaluated_between g w copies now versions.items) (2 ^ 64 - 1)) es
evaluated_on g w copies now count (Ask reader row calc k reply ∷ es) = evaluated_on g w copies now count es
evaluated_on g w copies now count (Save number moment ∷ es) = evaluated_on g w copies now count es

-- What holds of a group's rows, whether or not the opening is right. In a window that the records since the opening made
-- due they are from scratch, and in any other those of the opening. As many values were evaluated as the refreshes on
-- the tape made due.
pub record AreRowsEvaluated (g : Group) (grid : Grid) (o : GroupOpening) (tape : List Turn) (copies : List (List Rec))
    (rows : List (List CalcValue)) (evals : ℕ) : Type 0 where
  pub rows_are : AreRowsOver g grid o copies rows
  pub evals_are : evals ≡ evaluated_on g grid copies o.versions.items 0 tape

-- What a crash leaves of a group's device.
use Rattle.std.specs.Prelude.{ℕ, ◌≤◌, List, [], ◌∷◌, Contains, length}
use Rattle.trend_num.specs.{Rec, CalcValue}
use Rattle.calc_check.specs.Group.{Group}
use Rattle.sheet_law.specs.{Grid, IsScratch}
use Rattle.group_layout.specs.{StandsFor}
use Rattle.group_book.specs.declared.turn.Turn.{Turn}
use Rattle.group_book.specs.declared.history.GroupOpening.{GroupOpening}
use Rattle.group_book.specs.Tapes.{cut, versions_since}
use Rattle.group_book.specs.Histories.{AreRowsOver, IsRight}

-- An image stands for one of these versions, and for the rows at that version. If the opening is right, these are the rows
-- from scratch. In any case they are so in a window that was due since the opening, and those of the opening in any other.
pub record StandsForOne (text : List ℕ) (g : Group) (grid : Grid) (o : GroupOpening) (copies : List (List Rec)) (since : List (List ℕ))
    (c : List ℕ) : Type 0 where
  pub versions : List ℕ
  pub rows : List (List CalcValue)
  pub among : Contains since versions
  pub stands : StandsFor text (length g.inputs) (length g.calcs) c versions rows
  pub rows_are : AreRowsOver g grid o (cut versions copies) rows
  pub scratch : IsRight g grid o copies → IsScratch g grid (cut versions copies) rows

-- `left` says which images a crash might have left at a moment. Each such image since the opening stands for the
-- versions and rows of the last save at that moment or before it, or of a refresh since. Before the first save, it
-- stands for those of the opening or of a refresh. All this holds whether or not the opening is right.
pub record IsBookSafe (text : List ℕ) (g : Group) (grid : Grid) (o : GroupOpening) (copies : List (List Rec)) (tape : List Turn)
    (left : ℕ → List ℕ → Type 0) : Type 0 where
  pub images : (t : ℕ) (c : List ℕ) → o.moment ≤ t → left t c
      → StandsForOne text g grid o copies (versions_since t o.versions.items (o.versions.items ∷ []) tape) c

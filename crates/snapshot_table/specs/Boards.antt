-- The models of a board, its posters and its lookers.
use Rattle.std.specs.Prelude.{◌≡◌, ℕ, suc, List, [], ◌∷◌, length, replicate, slice_get, Some}
use Rattle.atomic_table.specs.Seated.{TableId}
use Rattle.trend_num.specs.{Snap}
use Rattle.snapshot_table.specs.Snaps.{nothing}

-- the poster of a tag: the cell that it writes, and the snapshot that it posted last
pub record Posting : Type 0 where
  pub tag : ℕ
  pub cell : TableId
  pub last : Snap

-- a looker: the cells, and the snapshot that each showed it last
pub record Looking : Type 0 where
  pub cells : List TableId
  pub seen : List Snap

-- the poster writes the cell of its tag on this board
abbrev pub PostsTo : List TableId → Posting → Type 0
PostsTo board p = slice_get board p.tag ≡ Some p.cell

-- the looker sees the cells of this board, and has seen a snapshot of each
pub record LooksAt (board : List TableId) (l : Looking) : Type 0 where
  pub cells : l.cells ≡ board
  pub seen : length l.seen ≡ length board

-- the poster of a tag of a new board, which has posted nothing
abbrev pub new_poster : ℕ → TableId → Posting
new_poster tag cell = record { tag = tag; cell = cell; last = nothing }

-- the posters of these cells of a new board; their tags are counted from this number on
abbrev pub new_posters : ℕ → List TableId → List Posting
new_posters tag [] = []
new_posters tag (cell ∷ cells) = new_poster tag cell ∷ new_posters (suc tag) cells

-- a looker at a new board
abbrev pub new_looker : List TableId → Looking
new_looker board = record { cells = board; seen = replicate (length board) nothing }

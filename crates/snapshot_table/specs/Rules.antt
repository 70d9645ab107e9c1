-- The rule of a cell of the board.
use Rattle.std.specs.Prelude.{◌≡◌, ℕ, ◌^◌, ◌<◌, ◌≤◌, true, false, List}
use mathlib.Core.Option.{some}
use lib.ListN.{get_elem?}
use Rattle.trend_num.specs.{Snap}
use Rattle.snapshot_table.specs.declared.words.Shown.{Shown}
use Rattle.snapshot_table.specs.declared.rule.View.{View}
use Rattle.snapshot_table.specs.Snaps.{snap_of}

-- the view of the poster, with the snapshot that it posted last
abbrev pub posting : Snap → View
posting snap = record { posts = true; snap = snap }

-- the view of a looker, with the snapshot that it saw last
abbrev pub looking : Snap → View
looking snap = record { posts = false; snap = snap }

-- View number `by` fits these words. Only the first view may post; if it may, the words are its last snapshot. No view
-- has seen more events than the words count.
pub record FitsPost (words : Shown) (by : ℕ) (v : View) : Type 0 where
  pub first : v.posts ≡ true → by ≡ 0
  pub last : v.posts ≡ true → v.snap ≡ snap_of words
  pub no_later : v.snap.taken ≤ words.taken

-- the words fit a snapshot, and each view fits the words
pub record IsKept (words : Shown) (views : List View) : Type 0 where
  pub fit : words.size < 2 ^ 63
  pub views_fit : (by : ℕ) (v : View) → get_elem? views by ≡ some v → FitsPost words by v

-- a post: afterwards the words are the last snapshot of the view
abbrev pub Posts : View → Shown → Shown → View → Type 0
Posts v before after w = w ≡ posting (snap_of after)

-- a look: the words are whole, count no fewer events than the view saw before, and are what it saw last
pub record Looks (v : View) (before after : Shown) (w : View) : Type 0 where
  pub fit : after.size < 2 ^ 63
  pub no_earlier : v.snap.taken ≤ after.taken
  pub seen : w ≡ looking (snap_of after)

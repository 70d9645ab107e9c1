-- Legal histories of a log, and what a crash leaves of its device.
use Rattle.std.specs.Prelude.{◌≡◌, ℕ, ◌+◌, ◌-◌, ◌<◌, ◌≤◌, List, [], ◌∷◌, ◌++◌, All, length, min, take}
use Rattle.commit_log.specs.declared.row.LogRow.{LogRow}
use Rattle.commit_log.specs.declared.history.LogTurn.{LogTurn}
use Rattle.commit_log.specs.declared.history.LogTurn.TheVariants.{Put, Commit}
use Rattle.commit_log.specs.Blocks.{IsLogRow, most_in_block}
use Rattle.commit_log.specs.Images.{StandsForRows}
use Rattle.commit_log.specs.Tapes.{LogWalk, acked_at, after_turn, puts, log_begin, log_walked}

-- a commit acknowledges the rows that have waited longest, as many as one block may have, at a later moment
pub record IsNextCommit (w : LogWalk) (moment acked : ℕ) : Type 0 where
  pub some : w.acked < w.rows
  pub acked_are : acked ≡ w.acked + min most_in_block (w.rows - w.acked)
  pub later : w.moment < moment

-- a turn fits its place on the tape of a log with so many tags
abbrev pub LogTurnFits : ℕ → LogWalk → LogTurn → Type 0
LogTurnFits tags w (Put row) = IsLogRow tags row
LogTurnFits tags w (Commit moment acked) = IsNextCommit w moment acked

-- each of these turns fits its place
abbrev pub LogTurnsFit : ℕ → LogWalk → List LogTurn → Type 0
LogTurnsFit tags w [] = Unit {0}
LogTurnsFit tags w (e ∷ es) = LogTurnFits tags w e × LogTurnsFit tags (after_turn w e) es

-- a legal history: from an opening with these rows at this moment, until so many rows are acknowledged
pub record IsLogLegal (tags : ℕ) (opening : List LogRow) (moment : ℕ) (tape : List LogTurn) (acked : ℕ) : Type 0 where
  pub opened : All (IsLogRow tags) opening
  pub turns : LogTurnsFit tags (log_begin (length opening) moment) tape
  pub last : acked ≡ (log_walked (log_begin (length opening) moment) tape).acked

-- an image stands for the opening's rows followed by the oldest of the puts, and for at least so many rows in all
pub record StandsForPart (plant : List ℕ) (tags : ℕ) (opening rows : List LogRow) (least : ℕ) (c : List ℕ) : Type 0 where
  pub count : ℕ
  pub enough : least ≤ length opening + count
  pub within : count ≤ length rows
  pub stands : StandsForRows plant tags c (opening ++ take count rows)

-- `left` states which images a crash at a moment might have left. Each of these, at each moment since the opening,
-- stands for the opening followed by the oldest puts. All rows acknowledged by then are among them.
pub record IsLogSafe (plant : List ℕ) (tags : ℕ) (opening : List LogRow) (moment : ℕ) (tape : List LogTurn)
    (left : ℕ → List ℕ → Type 0) : Type 0 where
  pub images : (t : ℕ) (c : List ℕ) → moment ≤ t → left t c
      → StandsForPart plant tags opening (puts tape) (acked_at t (length opening) tape) c

-- What a log's tape records: which rows were put, and how many are acknowledged.
use Rattle.std.specs.Prelude.{ℕ, ◌+◌, List, [], ◌∷◌, nat_le, if◌then◌else◌}
use Rattle.commit_log.specs.declared.row.LogRow.{LogRow}
use Rattle.commit_log.specs.declared.history.LogTurn.{LogTurn}
use Rattle.commit_log.specs.declared.history.LogTurn.TheVariants.{Put, Commit}

-- the rows that were put
abbrev pub puts : List LogTurn → List LogRow
puts [] = []
puts (Put row ∷ es) = row ∷ puts es
puts (Commit moment acked ∷ es) = puts es

-- how many rows the last commit by moment `t` acknowledges; `n` if there is no such commit
abbrev pub acked_at : ℕ → ℕ → List LogTurn → ℕ
acked_at t n [] = n
acked_at t n (Put row ∷ es) = acked_at t n es
acked_at t n (Commit moment acked ∷ es) = acked_at t (if nat_le moment t then acked else n) es

-- The state at a place of a tape: how many rows there are so far, with the opening's; how many of them the last commit
-- acknowledged, and at which moment.
pub record LogWalk : Type 0 where
  pub rows : ℕ
  pub acked : ℕ
  pub moment : ℕ

-- the state at an opening with so many rows
abbrev pub log_begin : ℕ → ℕ → LogWalk
log_begin rows moment = record { rows = rows; acked = rows; moment = moment }

-- the state after one more turn
abbrev pub after_turn : LogWalk → LogTurn → LogWalk
after_turn w (Put row) = record w { rows = w.rows + 1 }
after_turn w (Commit moment acked) = record w { acked = acked; moment = moment }

-- the state after these turns
abbrev pub log_walked : LogWalk → List LogTurn → LogWalk
log_walked w [] = w
log_walked w (e ∷ es) = log_walked (after_turn w e) es

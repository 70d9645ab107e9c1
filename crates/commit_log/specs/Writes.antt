-- What a commit writes: the oldest rows that wait.
use Rattle.std.specs.Prelude.{◌≡◌, ℕ, ◌≤◌, List, [], ◌∷◌, ◌++◌, length, take}
use Rattle.commit_log.specs.declared.history.LogTurn.{LogTurn}
use Rattle.commit_log.specs.Blocks.{log_block_image, rows_image}
use Rattle.commit_log.specs.Tapes.{puts}

-- the new bytes are the old ones and, after them, the `count` rows that the first `turns` of these turns put
pub record WritesRows (count : ℕ) (rest : List LogTurn) (old new : List ℕ) (turns : ℕ) : Type 0 where
  pub within : turns ≤ length rest
  pub long : length (puts (take turns rest)) ≡ count
  pub bytes_are : new ≡ old ++ rows_image (puts (take turns rest))

-- these are the bytes of the block with the `count` rows that the first `turns` of these turns put, and then the next
-- gate, which is closed
pub record IsBlockOf (number count : ℕ) (rest : List LogTurn) (bytes : List ℕ) (turns : ℕ) : Type 0 where
  pub within : turns ≤ length rest
  pub long : length (puts (take turns rest)) ≡ count
  pub bytes_are : bytes ≡ log_block_image number (puts (take turns rest)) ++ 0 ∷ []

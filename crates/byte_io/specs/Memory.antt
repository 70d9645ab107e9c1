-- How a proof sees a source and a sink in memory.
use Rattle.std.specs.Prelude.{ℕ, List}

-- a source in memory: its bytes that are left, the numbers of the calls that are to fail, and its counts
pub record SourceState : Type 0 where
  pub bytes_left : List ℕ
  pub failing_calls : List ℕ
  pub calls : ℕ
  pub faults : ℕ

-- a sink in memory: the bytes that it took, the numbers of the calls that are to fail, and its counts
pub record SinkState : Type 0 where
  pub bytes_written : List ℕ
  pub failing_calls : List ℕ
  pub calls : ℕ
  pub faults : ℕ

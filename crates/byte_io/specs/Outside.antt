-- What a proof sees of a source or of a sink, and what a call to it does there.
use Rattle.std.specs.Prelude.{◌≡◌, ℕ, ◌+◌, ◌-◌, ◌^◌, ◌<◌, ◌≤◌, min, List, Option, length, take}
use Rattle.std.specs.Io.KnownBytes.{Appends, Consumes, IsAtEnd}

-- the meaning of a source or of a sink: the bytes that a source has left, or that a sink was given, if they are known;
-- and how many of its calls have failed
pub record Outside : Type 0 where
  pub content : Option (List ℕ)
  pub faults : ℕ

-- ---- faults

-- one more, or the same at the end of the type
abbrev pub next_fault_count : ℕ → ℕ
next_fault_count n = min (n + 1) (2 ^ 64 - 1)

-- no call failed
abbrev pub CountsNoFault : Outside → Outside → Type 0
CountsNoFault before now = now.faults ≡ before.faults

-- one call failed
abbrev pub CountsOneFault : Outside → Outside → Type 0
CountsOneFault before now = now.faults ≡ next_fault_count before.faults

-- ---- what a source gives

-- these bytes were taken from its front
abbrev pub Takes : Outside → Outside → List ℕ → Type 0
Takes before now bytes = Consumes before.content now.content bytes

-- these bytes were taken, and none is left
pub record TakesAll (before now : Outside) (bytes : List ℕ) : Type 0 where
  pub taken : Takes before now bytes
  pub ended : IsAtEnd now.content

-- exactly this many bytes were taken
abbrev pub TakesExactly : Outside → Outside → ℕ → Type 0
TakesExactly before now n = (bytes : List ℕ) × Takes before now bytes × (length bytes ≡ n)

-- at most this many bytes were taken
abbrev pub TakesAtMost : Outside → Outside → ℕ → Type 0
TakesAtMost before now n = (bytes : List ℕ) × Takes before now bytes × (length bytes ≤ n)

-- some bytes were taken, and at most this many
abbrev pub TakesSome : Outside → Outside → ℕ → Type 0
TakesSome before now n = (bytes : List ℕ) × Takes before now bytes × (0 < length bytes) × (length bytes ≤ n)

-- ---- what a sink is given

-- it was given these bytes
abbrev pub Gains : Outside → Outside → List ℕ → Type 0
Gains before now bytes = Appends before.content now.content bytes

-- it was given all of these bytes, and no write failed
pub record IsWritten (before now : Outside) (bytes : List ℕ) : Type 0 where
  pub whole : Gains before now bytes
  pub no_fault : CountsNoFault before now

-- it was given fewer than all of these bytes, from the first on, and then a write failed
pub record IsCutShort (before now : Outside) (bytes : List ℕ) : Type 0 where
  pub given : ℕ
  pub fewer : given < length bytes
  pub part : Gains before now (take given bytes)
  pub one_fault : CountsOneFault before now

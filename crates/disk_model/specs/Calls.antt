-- What the calls of a device answer and do.
use Rattle.std.specs.Prelude.{◌≡◌, ◌⊎◌, ℕ, ◌+◌, ◌-◌, ◌^◌, ◌<◌, ◌≤◌, min, List, length, take, drop, Result, MatchResult, OnOk, OnErr, IsErrOf}
use Rattle.disk_model.specs.Traces.{DeviceCall, Idle, Trace, seen, noted}

-- one more, or the same at the end of the type
abbrev pub next_count : ℕ → ℕ
next_count n = min (n + 1) (2 ^ 64 - 1)

-- the sum of two counts, or the end of the type
abbrev pub sum_of_counts : ℕ → ℕ → ℕ
sum_of_counts m n = min (m + n) (2 ^ 64 - 1)

-- one fault was counted
abbrev pub Rose : ℕ → ℕ → Type 0
Rose before now = now ≡ next_count before

-- over one call, or over several that end at the first one that failed: no fault is counted if the answer is Ok, and
-- one if it is an error
pub record HasCause {T E : Type 0} (before now : ℕ) (result : Result T E) : Type 0 where
  pub later : before ≤ now
  pub passed : OnOk result (now ≡ before)
  pub failed : OnErr result (Rose before now)

-- over several calls that end at the first one that failed: one fault is counted if the answer is the error of a failed
-- call, and none if it is Ok or another error
pub record CountsFault {T E : Type 0} (result : Result T E) (fault : E) (before now : ℕ) : Type 0 where
  pub later : before ≤ now
  pub passed : OnOk result (now ≡ before)
  pub failed : IsErrOf result fault → Rose before now
  pub refused : OnErr result ((IsErrOf result fault → ⊥) → now ≡ before)

-- over one call the clock rises by one; at the end of its type it stays, and the call fails
pub record IsTimed {T E : Type 0} (before now : ℕ) (result : Result T E) : Type 0 where
  pub later : before ≤ now
  pub counted : now ≡ next_count before
  pub in_time : OnOk result (before < 2 ^ 64 - 1)

-- what a read returns of the device has P
abbrev pub Shows : Trace → (List ℕ → Type 0) → Type 0
Shows o P = P (seen o)

-- a read of all of the device returns these bytes
abbrev pub Sees : Trace → List ℕ → Type 0
Sees o bytes = seen o ≡ bytes

-- the device has this length
abbrev pub HasLength : Trace → ℕ → Type 0
HasLength o n = length (seen o) ≡ n

-- the device has at least this many bytes
abbrev pub Reaches : Trace → ℕ → Type 0
Reaches o n = n ≤ length (seen o)

-- these bytes are at the place
abbrev pub Reads : Trace → ℕ → List ℕ → Type 0
Reads o at bytes = bytes ≡ take (length bytes) (drop at (seen o))

-- the trace after one more call: that call is added; if it failed, the same call in part, or an idle one, or, at the
-- end of the clock, none
abbrev pub IsNoted : {T E : Type 0} → DeviceCall → DeviceCall → Result T E → Trace → Trace → Type 0
IsNoted whole part result old new = MatchResult result (λ _. new ≡ noted whole old) (λ _. (new ≡ noted part old) ⊎ (new ≡ noted Idle old) ⊎ (new ≡ old))

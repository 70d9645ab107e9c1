-- What a crash leaves of a cell's device.
use Rattle.std.specs.Prelude.{◌≡◌, IfSome, ℕ, ◌+◌, ◌-◌, ◌^◌, ◌<◌, ◌≤◌, Bool, List, length, take, map, min, nat_eq, if◌then◌else◌}
use Rattle.trend_num.specs.{Point, TagDef}
use Rattle.trend_model.specs.{Raw}
use Rattle.trend_model.specs.State.{State, replay}
use Rattle.disk_model.specs.{HandOut, Trace, moment, ComesAfter}
use Rattle.device_layout.specs.{AllFit, Recovers}
use Rattle.crash_recovery.specs.{RecoversThen, StaysSame}
use Rattle.archive_file.specs.{PutNo}
use Rattle.archive_file.specs.declared.failure.PutNo.TheVariants as put
use Rattle.tag_cell.specs.declared.entry.CommitNo.{CommitNo}
use Rattle.tag_cell.specs.declared.entry.CommitNo.TheVariants as commit
use Rattle.tag_cell.specs.declared.entry.Entry.{Entry}
use Rattle.tag_cell.specs.declared.history.TagOpening.{TagOpening}
use Rattle.tag_cell.specs.Tapes.{acked_at, opened, taken}

-- an image recovers a state followed by the oldest of these values, `least` at least
pub record RecoversPart (def : TagDef) (s : State) (points : List Point) (least : ℕ) (c : List ℕ) : Type 0 where
  pub count : ℕ
  pub enough : least ≤ count
  pub within : count ≤ length points
  pub recovered : Recovers def c (replay def.step s (map Raw (take count points)))

-- after all takes, fewer than 10^18 events are taken
abbrev pub IsCountable : TagOpening → List Entry → Type 0
IsCountable o tape = o.summary.taken + length (taken tape) < 10 ^ 18

-- `left` says which images a crash at a moment could have left. An image of any moment since the opening recovers the
-- opening followed by the oldest takes. These include all that the last commit at that moment, or before it,
-- acknowledged.
pub record IsSafe (def : TagDef) (o : TagOpening) (tape : List Entry) (left : ℕ → List ℕ → Type 0) : Type 0 where
  pub images : IsCountable o tape → (t : ℕ) (c : List ℕ) → o.moment ≤ t → left t c
      → RecoversPart def (opened o) (taken tape) (acked_at t o.summary.taken tape - o.summary.taken) c

-- a core that continues by these values from a state that a device recovers
pub record GoesOnBy (def : TagDef) (s : State) (step : Bool) (r : State) (points : List Point) : Type 0 where
  pub same_step : step ≡ def.step
  pub fits : AllFit def.step s (map Raw points)
  pub state : r ≡ replay def.step s (map Raw points)

-- how many of so many waiting values a commit writes: at most 64 if a lane slot is free, otherwise all
abbrev pub count_written : ℕ → ℕ → ℕ
count_written free waiting = if nat_eq free 0 then waiting else min 64 waiting

-- the refusal of a commit whose checkpoint was refused
abbrev pub refusal_of : PutNo → CommitNo
refusal_of put.DeviceFault = commit.DeviceFault
refusal_of put.WantOfMemory = commit.WantOfMemory

-- From one device on, the opening made another of it, and more calls made it what it is now. Until the opening ended, a
-- crash left what it might have left before, or what recovers the same. The opening is what the device then recovers.
pub record IsOpenedWell (def : TagDef) (o : TagOpening) (before now : Trace) : Type 0 where
  pub ended : Trace
  pub same : StaysSame def before ended
  pub recovers : RecoversThen def before ended (opened o)
  pub at : moment ended ≡ o.moment
  pub later : ComesAfter ended now

-- the same from what the device was when it was handed out, if that is recorded
abbrev pub BeganWell : TagDef → TagOpening → HandOut → Trace → Type 0
BeganWell def o handed now = IfSome handed.trace (λ before. IsOpenedWell def o before now)

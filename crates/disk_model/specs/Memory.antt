-- How a proof sees a device in memory, and which image of it is picked.
use Rattle.std.specs.Prelude.{◌≡◌, ◌⊎◌, ℕ, ◌≤◌, Bool, List, [], ◌∷◌, length, replicate, Contains, Option, None, IsSomeAnd, Result, IsErr, is_ok, if◌then◌else◌}
use Rattle.disk_model.specs.declared.memory_disk.Pick.{Pick}
use Rattle.disk_model.specs.declared.memory_disk.Pick.TheVariants.{Old, New, Fill}
use Rattle.disk_model.specs.Traces.{DeviceCall, Wrote, WroteInPart, Resized, ResizedInPart, Synced, Idle, HandOut, Trace, written, resized, content}
use Rattle.disk_model.specs.Calls.{next_count}

-- a device in memory: the name under which a store handed it out, if one did; its trace; the numbers of the calls that
-- are to fail, and the number from which all are to fail; whether it stops together with others; and its counts
pub record DiskState : Type 0 where
  pub name : Option (List ℕ)
  pub trace : Trace
  pub failing_calls : List ℕ
  pub stop : Option ℕ
  pub shares : Bool
  pub calls : ℕ
  pub faults : ℕ

-- a device that a store handed out under this name, or that none handed out; what it was then is not recorded
abbrev pub handed_as : Option (List ℕ) → HandOut
handed_as name = record { name = name; trace = None }

-- the next call is to fail, whatever other devices did
abbrev pub IsToFail : DiskState → Type 0
IsToFail s = Contains s.failing_calls s.calls ⊎ IsSomeAnd s.stop (λ stop. stop ≤ s.calls)

-- over one call: it is counted, the calls that are to fail stay, and the faults rise by one if it failed
pub record IsCalled {T E : Type 0} (old new : DiskState) (result : Result T E) : Type 0 where
  pub name : new.name ≡ old.name
  pub calls : new.calls ≡ next_count old.calls
  pub failing_calls : new.failing_calls ≡ old.failing_calls
  pub stop : new.stop ≡ old.stop
  pub shares : new.shares ≡ old.shares
  pub faults : new.faults ≡ (if is_ok result then old.faults else next_count old.faults)
  pub fails : IsToFail old → IsErr result

-- what is picked of a range in which bytes were written
abbrev pub picked_bytes : Pick → List ℕ → List ℕ → ℕ → List ℕ
picked_bytes Old bytes image at = image
picked_bytes New bytes image at = written image at bytes
picked_bytes (Fill b) bytes image at = written image at (replicate (length bytes) b)

-- what is picked of a length to which the device was brought
abbrev pub picked_length : Pick → List ℕ → ℕ → List ℕ
picked_length Old image len = image
picked_length New image len = resized image len
picked_length (Fill b) image len = resized image len

-- the image that is picked: none of what was done since the last sync, all of it, or all of it with one byte in place
-- of each that was written. Of the calls that failed, a write counts as done, and a change of the length does not
abbrev pub picked : Pick → List ℕ → List DeviceCall → List ℕ
picked pick first [] = first
picked pick first (Wrote at bytes ∷ es) = picked_bytes pick bytes (picked pick first es) at
picked pick first (WroteInPart at bytes ∷ es) = picked_bytes pick bytes (picked pick first es) at
picked pick first (Resized len ∷ es) = picked_length pick (picked pick first es) len
picked pick first (ResizedInPart len ∷ es) = picked pick first es
picked pick first (Synced ∷ es) = content first es
picked pick first (Idle ∷ es) = picked pick first es

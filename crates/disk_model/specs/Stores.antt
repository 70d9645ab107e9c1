-- How a proof sees a store in memory.
use Rattle.std.specs.Prelude.{◌≡◌, ◌≢◌, ℕ, Bool, true, List, [], ◌∷◌, bytes_eq, if◌then◌else◌, map, String, string_bytes, Option, None, Some, is_some}
use Rattle.std.specs.declared.alloc.Global.{Global}
use Rattle.disk_model.specs.Traces.{Trace}
use Rattle.disk_model.specs.Memory.{DiskState}

-- devices by name, of which the first of a name counts
abbrev pub Devices : Type 0
Devices = List (List ℕ × DiskState)

-- a store in memory: the devices by name, the count of faults, and whether the devices that it hands out stop together
pub record StoreState : Type 0 where
  pub devices : Devices
  pub faults : ℕ
  pub stops : Bool

-- the device of a name
abbrev pub device_of : Devices → List ℕ → Option DiskState
device_of [] name = None
device_of (d ∷ ds) name = if bytes_eq d.0 name then Some d.1 else device_of ds name

-- a device that holds nothing
abbrev pub empty_trace : Trace
empty_trace = record { first = []; calls = [] }

-- the trace of a device; it is empty if there is no device
abbrev pub trace_or_empty : Option DiskState → Trace
trace_or_empty None = empty_trace
trace_or_empty (Some d) = d.trace

-- the trace of the device of a name; it is empty if there is none
abbrev pub trace_at : Devices → List ℕ → Trace
trace_at ds name = trace_or_empty (device_of ds name)

-- there is a device of this name
abbrev pub has_device : Devices → List ℕ → Bool
has_device ds name = is_some (device_of ds name)

-- the devices by the bytes of their names
abbrev pub named : List (String Global × DiskState) → Devices
named ds = map (λ d. (string_bytes d.0, d.1)) ds

-- a device was put at a name; every other name has what it had, and each name that had a device has one
pub record Puts (old new : Devices) (name : List ℕ) (d : DiskState) : Type 0 where
  pub told : device_of new name ≡ Some d
  pub others : (n : List ℕ) → n ≢ name → device_of new n ≡ device_of old n
  pub places : (n : List ℕ) → has_device old n ≡ true → has_device new n ≡ true

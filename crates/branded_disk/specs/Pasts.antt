-- What the devices of a store were when a command began.
use Rattle.std.specs.Prelude.{◌≡◌, ℕ, List, Option, None, Some, IfSome}
use Rattle.disk_model.specs.{Device, Trace}

-- what the device of each name was, if that is told
abbrev pub Past : Type 0
Past = List ℕ → Option Trace

-- nothing is told
abbrev pub untold : Past
untold name = None

-- what the device of a name was, if it has a name and that is told
abbrev pub past_of : Past → Option (List ℕ) → Option Trace
past_of before None = None
past_of before (Some name) = before name

-- a device as a proof sees it, with what it was when the command began in place of what it was when it was handed out
abbrev pub branded : {D : Type 0} → (D → Device) → Past → D → Device
branded device before dev = record {
  handed = record { name = (device dev).handed.name; trace = past_of before (device dev).handed.name };
  trace = (device dev).trace;
  faults = (device dev).faults;
}

-- if it is told what the device of this name was, it is that still
abbrev pub IsUnused : Past → (List ℕ → Trace) → List ℕ → Type 0
IsUnused before now name = IfSome (before name) (λ t. now name ≡ t)

-- of each name it is told what the device is now
abbrev pub told_of : (List ℕ → Trace) → Past
told_of now name = Some (now name)

-- it is told of each name, and each device is that still
abbrev pub IsWholePast : Past → (List ℕ → Trace) → Type 0
IsWholePast before now = (name : List ℕ) → before name ≡ told_of now name

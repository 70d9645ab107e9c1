-- The trace that the notes of the calls on a file record.
use Rattle.std.specs.Prelude.{◌≡◌, ℕ, ◌==◌, List, [], ◌∷◌, slice_index, if◌then◌else◌}
use Rattle.disk_model.specs.{DeviceCall, Wrote, WroteInPart, Resized, ResizedInPart, Synced, Idle, Trace, empty_trace}

-- which call it was, its place or length, and its bytes
abbrev pub Note : Type 0
Note = ℕ × ℕ × List ℕ

abbrev pub note_of : List ℕ → List ℕ → Note
note_of numbers bytes = (slice_index numbers 0, slice_index numbers 1, bytes)

-- the call that is noted as 1 to 5; any other number notes that no call was made
abbrev pub call_of : Note → DeviceCall
call_of n =
    if n.0 == 1 then Wrote n.1 n.2 else
    if n.0 == 2 then WroteInPart n.1 n.2 else
    if n.0 == 3 then Resized n.1 else
    if n.0 == 4 then ResizedInPart n.1 else
    if n.0 == 5 then Synced else Idle

-- a device after one call more
abbrev pub after_call : DeviceCall → Trace → Trace
after_call e t = record { first = t.first; calls = e ∷ t.calls }

-- a device of which these bytes were read, with no call since
abbrev pub read_as : List ℕ → Trace
read_as bytes = record { first = bytes; calls = [] }

-- the trace that the notes record, the newest first: a file that was made begins empty; one that was read, which is
-- noted as 0, begins with what was read
abbrev pub told_by : List Note → Trace
told_by [] = empty_trace
told_by (n ∷ ns) = if n.0 == 0 then read_as n.2 else after_call (call_of n) (told_by ns)

-- there was no call on the device since it was read
abbrev pub IsFresh : Trace → Type 0
IsFresh t = t.calls ≡ []

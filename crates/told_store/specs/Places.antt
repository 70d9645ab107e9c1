-- The traces that a store of files has at each name.
use Rattle.std.specs.Prelude.{ℕ, Bool, false, List, Option, None, Some, String, is_none, is_some}
use Rattle.std.specs.BTreeMap.{BTreeMap, get_by_text}
use Rattle.std.specs.declared.alloc.Global.{Global}
use Rattle.disk_model.specs.{Trace, empty_trace}
use Rattle.told_store.specs.Notes.{IsFresh, told_by}
use Rattle.told_store.specs.declared.folder.FileId.{FileId}
use Rattle.told_store.specs.declared.kept.Kept.{Kept}

-- the devices by name
abbrev pub Places : Type 0
Places = BTreeMap (String Global) Kept

-- the trace of a device; it is empty if there is no device
abbrev pub told_of : Option Kept → Trace
told_of None = empty_trace
told_of (Some kept) = told_by kept.log.notes

-- the trace of the device of a name
abbrev pub told_in : Places → List ℕ → Trace
told_in places name = told_of (get_by_text places name)

-- which file was read of a device, if one was
abbrev pub file_of : Option Kept → Option FileId
file_of None = None
file_of (Some kept) = kept.file

-- the same of the device of a name
abbrev pub file_in : Places → List ℕ → Option FileId
file_in places name = file_of (get_by_text places name)

-- there is a place for a device of this name
abbrev pub is_placed : Places → List ℕ → Bool
is_placed places name = is_some (get_by_text places name)

-- a device is not handed out: it is out, it was given back, or its file is refused
abbrev pub stops : Option Kept → Bool
stops None = false
stops (Some kept) = is_none kept.bytes

-- the same of the device of a name
abbrev pub is_stopped_in : Places → List ℕ → Bool
is_stopped_in places name = stops (get_by_text places name)

-- there was no call on any of them since it was read
abbrev pub AllFresh : Places → Type 0
AllFresh places = (name : List ℕ) → IsFresh (told_in places name)

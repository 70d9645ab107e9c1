-- What a proof sees of files that are read by name, and what a read of one gives.
use Rattle.std.specs.Prelude.{◌≡◌, ℕ, ◌<◌, ◌≤◌, List, [], ◌∷◌, length, take, drop, ⊤, bytes_eq, nat_le, if◌then◌else◌, map, Vec, String, string_bytes, Option, None, Some, IfSome}
use Rattle.std.specs.declared.alloc.Global.{Global}

-- what is known of a file: nothing, that no file has its name, or the bytes that it holds
pub data FileTold : Type 0 where
  Untold : FileTold
  Missing : FileTold
  Holds : List ℕ → FileTold

-- ---- what a read of a file may give. A file that is missing gives nothing, so no read of it succeeds

-- these bytes are in the file from a place on
abbrev pub HasAt : FileTold → ℕ → List ℕ → Type 0
HasAt Untold at bytes = ⊤
HasAt Missing at bytes = ⊥
HasAt (Holds all) at bytes = take (length bytes) (drop at all) ≡ bytes

-- the file has no byte at a place or after it
abbrev pub EndsBy : FileTold → ℕ → Type 0
EndsBy Untold at = ⊤
EndsBy Missing at = ⊥
EndsBy (Holds all) at = length all ≤ at

-- these are the bytes of the file
abbrev pub IsWhole : FileTold → List ℕ → Type 0
IsWhole Untold bytes = ⊤
IsWhole Missing bytes = ⊥
IsWhole (Holds all) bytes = all ≡ bytes

-- the file has more bytes than this
abbrev pub IsLongerThan : FileTold → ℕ → Type 0
IsLongerThan Untold limit = ⊤
IsLongerThan Missing limit = ⊥
IsLongerThan (Holds all) limit = limit < length all

-- ---- faults

-- if it is known whose read failed last, it is that of the file of this name
abbrev pub IsFaultOf : Option (List ℕ) → List ℕ → Type 0
IsFaultOf failed name = IfSome failed (λ n. n ≡ name)

-- ---- files in memory

-- files by name, of which the first of a name counts
abbrev pub NamedFiles : Type 0
NamedFiles = List (List ℕ × List ℕ)

-- the bytes of the file of a name
abbrev pub bytes_of : NamedFiles → List ℕ → Option (List ℕ)
bytes_of [] name = None
bytes_of (f ∷ fs) name = if bytes_eq f.0 name then Some f.1 else bytes_of fs name

-- what is known of a file with these bytes, or of none
abbrev pub told_by : Option (List ℕ) → FileTold
told_by None = Missing
told_by (Some bytes) = Holds bytes

-- what is known of the file of a name, of files in memory
abbrev pub told_of : NamedFiles → List ℕ → FileTold
told_of files name = told_by (bytes_of files name)

-- the files by the bytes of their names
abbrev pub files_named : List (String Global × Vec ℕ Global) → NamedFiles
files_named files = map (λ f. (string_bytes f.0, f.1.items)) files

-- the most bytes of a name that files in memory remember
abbrev pub most_remembered : ℕ
most_remembered = 255

-- what files in memory remember of a name: all of it, or nothing if it is longer
abbrev pub remembered : List ℕ → Option (List ℕ)
remembered name = if nat_le (length name) most_remembered then Some name else None

-- files in memory: their names and bytes, the numbers of the calls that are to fail, and the counts; and what they
-- remember of the name whose read failed last
pub record FilesState : Type 0 where
  pub files : NamedFiles
  pub failing_calls : List ℕ
  pub calls : ℕ
  pub faults : ℕ
  pub failed_name : Option (List ℕ)

-- Files that are read whole, within a limit, and why a file is not.
use Rattle.std.specs.Prelude.{◌≡◌, ℕ, ◌+◌, ◌≤◌, List, length, slice_get, ⊤, Option, Some, IfSome, Result, Ok, Err}
use Rattle.byte_io.specs.{FileTold, IsWhole, IsLongerThan}
use Rattle.byte_io.specs.Outside.{next_fault_count}
use Rattle.trend_num.specs.{What}
use Rattle.plant_status.specs.{FileId}
use Rattle.plant_status.specs.declared.status.Status.{Status}
use Rattle.plant_status.specs.declared.status.Status.TheVariants.{ReadFault, Limit, WantOfMemory}

-- these are the bytes of the file of which this is known, and there are at most so many
pub record IsReadWhole (told : FileTold) (most : ℕ) (bytes : List ℕ) : Type 0 where
  pub whole : IsWhole told bytes
  pub within : length bytes ≤ most

-- the file was read whole, and its bytes have the property
pub record IsReadWholeAs (told : FileTold) (most : ℕ) (IsSo : List ℕ → Type 0) : Type 0 where
  pub bytes : List ℕ
  pub read : IsReadWhole told most bytes
  pub so : IsSo bytes

-- the file has more bytes than it may; the status names the quantity, and one more than the limit
pub record IsTooLong (kind : What) (most : ℕ) (told : FileTold) (what : What) (number : ℕ) : Type 0 where
  pub quantity : what ≡ kind
  pub one_more : number ≡ most + 1
  pub longer : IsLongerThan told most

-- the status says why a file is not read whole; its bytes are of this quantity
abbrev pub IsReadRefusal : FileId → What → ℕ → FileTold → Status → Type 0
IsReadRefusal file kind most told (ReadFault which) = which ≡ file
IsReadRefusal file kind most told (Limit what number) = IsTooLong kind most told what number
IsReadRefusal file kind most told WantOfMemory = ⊤
IsReadRefusal file kind most told other = ⊥

-- ---- faults: a read failed if the status is a read fault, and not otherwise

abbrev pub faults_told : Status → ℕ → ℕ
faults_told (ReadFault file) faults = next_fault_count faults
faults_told other faults = faults

-- the count of faults after an answer
abbrev pub faults_after : {A : Type 0} → Result A Status → ℕ → ℕ
faults_after (Ok a) faults = faults
faults_after (Err why) faults = faults_told why faults

-- if it is known whose read failed last, that is the file at this place among the files of these names
abbrev pub IsFaultAt : List (List ℕ) → ℕ → Option (List ℕ) → Type 0
IsFaultAt names place failed = IfSome failed (λ name. slice_get names place ≡ Some name)

-- What the output gained of an answer, and the status for it.
use Rattle.std.specs.Prelude.{◌≡◌, ◌⊎◌, ℕ, List}
use Rattle.byte_io.specs.Outside.{Outside, IsWritten, IsCutShort}
use Rattle.plant_status.specs.{status_line_of}
use Rattle.plant_status.specs.declared.status.Status.{Status}
use Rattle.plant_status.specs.declared.status.Status.TheVariants.{Done, WriteFault}

-- the output gained the line of this status and nothing else; if a write failed, a part of the line
abbrev pub IsTold : Outside → Outside → Status → Type 0
IsTold before now status = IsWritten before now (status_line_of status) ⊎ IsCutShort before now (status_line_of status)

-- a text was printed and the status is Done; if a write failed, a part of it was printed and the status is WriteFault
abbrev pub IsPrintedSo : List ℕ → Outside → Outside → Status → Type 0
IsPrintedSo text before now status = ((status ≡ Done) × IsWritten before now text)
    ⊎ ((status ≡ WriteFault) × IsCutShort before now text)

-- a text was printed, or a part of it if a write failed, or the line of the refusal
abbrev pub PrintsSo : (List ℕ → Type 0) → (Status → Type 0) → Outside → Outside → Status → Type 0
PrintsSo IsText IsRefusal before now Done = (text : List ℕ) × IsText text × IsWritten before now text
PrintsSo IsText IsRefusal before now WriteFault = (text : List ℕ) × IsText text × IsCutShort before now text
PrintsSo IsText IsRefusal before now status = IsRefusal status × IsTold before now status

-- a fact of a command that did all that it was asked for, except perhaps the printing
abbrev pub WhereDone : Status → Type 0 → Type 0
WhereDone Done P = P
WhereDone WriteFault P = P
WhereDone status P = Unit {0}

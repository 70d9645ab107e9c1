-- What the opening of a group's device gives, and why a device is not opened.
use Rattle.std.specs.Prelude.{◌≡◌, ℕ, ◌<◌, ◌≤◌, List, length, map, slice_index, slice_index_or, Option, None, Some, IfSome, Err}
use Rattle.trend_num.specs.{Rec, CalcValue}
use Rattle.archive_file.specs.{ScanNo}
use Rattle.archive_file.specs.declared.failure.ScanNo.TheVariants as scan
use Rattle.disk_model.specs.{CountsFault, Shows, ComesAfter, During, Device, Trace, moment}
use Rattle.calc_refresh.specs.{GroupDefParts, lists_of, shape_fault, grid_of}
use Rattle.calc_refresh.specs.declared.refusal.SheetNo.TheVariants as sheet
use Rattle.sheet_law.specs.{complete_windows}
use Rattle.group_layout.specs.{StandsFor, IsGroupDamage, IsLeftOrSame}
use Rattle.group_book.specs.declared.history.GroupOpening.{GroupOpening}
use Rattle.group_book.specs.declared.refusal.LoadNo.{LoadNo}
use Rattle.group_book.specs.declared.refusal.LoadNo.TheVariants.{DeviceFault, Damaged, Ahead, Shape, WantOfMemory}
use Rattle.group_book.specs.Tapes.{cut}

-- an image stands for these versions and rows of a group with this definition and text
abbrev pub StandsForGroup : List ℕ → GroupDefParts → List ℕ → List (List CalcValue) → List ℕ → Type 0
StandsForGroup text def versions rows c = StandsFor text def.inputs (length def.calcs.calcs) c versions rows

-- an image is one that a crash might have left before, or stands for the same
abbrev pub BookStaysSame : List ℕ → GroupDefParts → Trace → List ℕ → Type 0
BookStaysSame text def o c = IsLeftOrSame text def.inputs (length def.calcs.calcs) o c

-- From one device on, the opening made another of it, and more calls made it what it is now. The opening is what the first
-- one stood for. Until the opening ended, a crash left what it might have left before, or what stands for the same.
pub record IsBookOpenedWell (text : List ℕ) (def : GroupDefParts) (o : GroupOpening) (before now : Trace) : Type 0 where
  pub ended : Trace
  pub stood : Shows before (StandsForGroup text def o.versions.items (lists_of o.rows.items))
  pub same : During before ended (BookStaysSame text def before)
  pub at : moment ended ≡ o.moment
  pub later : ComesAfter ended now

-- the same from what the device was when it was handed out, if there is a device and that is recorded
abbrev pub BookBeganWell : {D : Type 0} → (D → Device) → List ℕ → GroupDefParts → GroupOpening → Option D → Type 0
BookBeganWell device text def o None = Unit {0}
BookBeganWell device text def o (Some dev) =
    IfSome (device dev).handed.trace (λ before. IsBookOpenedWell text def o before (device dev).trace)

-- the first input whose version is above the number of records that were recovered
pub record IsAhead (versions : List ℕ) (recovered : List (List Rec)) (input version records : ℕ) : Type 0 where
  pub within : input < length versions
  pub version_is : version ≡ slice_index versions input
  pub records_are : (rs : List Rec) → records ≡ length (slice_index_or recovered input rs)
  pub above : records < version
  pub first : (i : ℕ) (rs : List Rec) → i < input → slice_index versions i ≤ length (slice_index_or recovered i rs)

-- these bytes stand for a version of an input that is too high
pub record SavesAhead (text : List ℕ) (def : GroupDefParts) (recovered : List (List Rec)) (input version records : ℕ)
    (c : List ℕ) : Type 0 where
  pub versions : List ℕ
  pub rows : List (List CalcValue)
  pub stands : StandsForGroup text def versions rows c
  pub ahead : IsAhead versions recovered input version records

-- no version is above the number of records that were recovered; but a row does not have as many values as there are
-- complete windows, and this is the first such row
pub record IsMisshapen (def : GroupDefParts) (recovered : List (List Rec)) (versions : List ℕ) (rows : List (List CalcValue))
    (windows size : ℕ) : Type 0 where
  pub within : map length (cut versions recovered) ≡ versions
  pub shape : shape_fault (complete_windows (grid_of def.start def.period) (cut versions recovered)) rows ≡ Some (sheet.Shape windows size)

-- these bytes stand for such rows
pub record SavesShape (text : List ℕ) (def : GroupDefParts) (recovered : List (List Rec)) (windows size : ℕ) (c : List ℕ)
    : Type 0 where
  pub versions : List ℕ
  pub rows : List (List CalcValue)
  pub stands : StandsForGroup text def versions rows c
  pub misshapen : IsMisshapen def recovered versions rows windows size

-- why a device is not opened
abbrev pub IsBookCause : List ℕ → GroupDefParts → List (List Rec) → Trace → LoadNo → Type 0
IsBookCause text def recovered o DeviceFault = Unit {0}
IsBookCause text def recovered o (Damaged a byte) = Shows o (λ c. IsGroupDamage text def.inputs (length def.calcs.calcs) c a byte)
IsBookCause text def recovered o (Ahead input version records) = Shows o (SavesAhead text def recovered input version records)
IsBookCause text def recovered o (Shape windows size) = Shows o (SavesShape text def recovered windows size)
IsBookCause text def recovered o WantOfMemory = Unit {0}

-- a refused device has counted one fault if a call of it failed, and none otherwise
abbrev pub CountsBookRefusal : LoadNo → ℕ → ℕ → Type 0
CountsBookRefusal why before now = CountsFault {T = Unit {0}} (Err why) DeviceFault before now

-- ---- why what was saved makes no sheet

-- a version is too high, or no memory was found
abbrev pub IsAheadOrMemory : List ℕ → List (List Rec) → LoadNo → Type 0
IsAheadOrMemory versions recovered DeviceFault = ⊥
IsAheadOrMemory versions recovered (Damaged a byte) = ⊥
IsAheadOrMemory versions recovered (Ahead input version records) = IsAhead versions recovered input version records
IsAheadOrMemory versions recovered (Shape windows size) = ⊥
IsAheadOrMemory versions recovered WantOfMemory = Unit {0}

-- the same, or a row does not have as many values as there are complete windows
abbrev pub IsRefused : GroupDefParts → List (List Rec) → List ℕ → List (List CalcValue) → LoadNo → Type 0
IsRefused def recovered versions rows DeviceFault = ⊥
IsRefused def recovered versions rows (Damaged a byte) = ⊥
IsRefused def recovered versions rows (Ahead input version records) = IsAhead versions recovered input version records
IsRefused def recovered versions rows (Shape windows size) = IsMisshapen def recovered versions rows windows size
IsRefused def recovered versions rows WantOfMemory = Unit {0}

-- the refusal of a book, given the refusal of its device
abbrev pub scan_refusal : ScanNo → LoadNo
scan_refusal scan.DeviceFault = DeviceFault
scan_refusal (scan.Damaged a byte) = Damaged a byte
scan_refusal scan.WantOfMemory = WantOfMemory

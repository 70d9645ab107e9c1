-- What is read from a log's device, what it is opened as, and why it is not opened.
use Rattle.std.specs.Prelude.{◌≡◌, ◌≢◌, ◌⊎◌, ℕ, ◌+◌, ◌*◌, ◌<◌, List, ◌++◌, All, length, Option, None, Some, IfSome, Err}
use Rattle.archive_file.specs.{ScanNo, Spells, IsOfText, blocks_at}
use Rattle.archive_file.specs.declared.failure.ScanNo.TheVariants as scan
use Rattle.disk_model.specs.{CountsFault, Shows, IsNew, MayLeave, ComesAfter, During, HandOut, Synced, Trace, moment, noted, seen}
use Rattle.commit_log.specs.declared.block_reader.Stored.{Stored}
use Rattle.commit_log.specs.declared.refusal.LogNo.{LogNo}
use Rattle.commit_log.specs.declared.refusal.LogNo.TheVariants.{DeviceFault, Damaged, OtherPlant, TooMany, WantOfMemory}
use Rattle.commit_log.specs.declared.row.LogRow.{LogRow}
use Rattle.commit_log.specs.Blocks.{AreBlockRows, AreBlocks, IsLogRow, log_block_image, log_block_size, log_end_of, rows_image, rows_of}
use Rattle.commit_log.specs.Images.{IsLogDamage, IsOfOther, StandsForRows, letters}

-- how many rows a log has at most, together with those that it has room for
abbrev pub most_rows : ℕ
most_rows = 4000000

-- ---- what is read

-- so many rows, whose bytes lie at a place, were added to the list
pub record AddsRows (c : List ℕ) (tags at count : ℕ) (old new : List LogRow) : Type 0 where
  pub more : List LogRow
  pub are : new ≡ old ++ more
  pub long : length more ≡ count
  pub each : All (IsLogRow tags) more
  pub spelled : Spells c at (rows_image more) (at + 32 * count)

-- the rows of a block were added; their numbers follow those of the list. These are the bytes from the block's gate on,
-- and so many of them come before the next gate.
pub record AddsBlock (c : List ℕ) (tags : ℕ) (old new : List LogRow) (size : ℕ) : Type 0 where
  pub block : List LogRow
  pub are : new ≡ old ++ block
  pub rows_are : AreBlockRows tags block
  pub spelled : Spells c 1 (log_block_image (length old) block) size
  pub size_is : size ≡ log_block_size block

-- the blocks from the gate at a place list these rows, and the next block goes to `end`
pub record ListsRows (c : List ℕ) (tags at : ℕ) (rows : List LogRow) (end : ℕ) : Type 0 where
  pub blocks : List (List LogRow)
  pub are : AreBlocks c tags at blocks
  pub rows_are : rows ≡ rows_of blocks
  pub end_is : end ≡ log_end_of at blocks

-- the image has a plant's log with these rows, and the next block goes to `end`
pub record Stores (plant : List ℕ) (tags : ℕ) (rows : List LogRow) (end : ℕ) (c : List ℕ) : Type 0 where
  pub of_plant : IsOfText letters plant c
  pub lists : ListsRows c tags (blocks_at (length plant)) rows end

-- what the reader found: no finished layout, or a plant's log
abbrev pub IsFound : List ℕ → ℕ → Option Stored → List ℕ → Type 0
IsFound plant tags None c = IsNew c
IsFound plant tags (Some s) c = Stores plant tags s.rows.items s.end c

-- the rows that the reader found are of a plant with so many tags
abbrev pub HasRowsOf : ℕ → Option Stored → Type 0
HasRowsOf tags None = Unit {0}
HasRowsOf tags (Some s) = All (IsLogRow tags) s.rows.items

-- ---- while a device is opened

-- a crash might have left this image before, or it stands for these rows
abbrev pub IsLeftOrStands : List ℕ → ℕ → List LogRow → Trace → List ℕ → Type 0
IsLeftOrStands plant tags rows o c = MayLeave o c ⊎ StandsForRows plant tags c rows

-- the image stands for rows for which these bytes stood before
pub record StandsSame (plant : List ℕ) (tags : ℕ) (before c : List ℕ) : Type 0 where
  pub rows : List LogRow
  pub stood : StandsForRows plant tags before rows
  pub stands : StandsForRows plant tags c rows

-- a crash might have left this image before, or it stands for the same rows as the device before
abbrev pub IsLogLeftOrSame : List ℕ → ℕ → Trace → List ℕ → Type 0
IsLogLeftOrSame plant tags o c = MayLeave o c ⊎ StandsSame plant tags (seen o) c

-- From one device on, the opening made another of it, and more calls made it what it is now. The opening's rows are those for
-- which the first one stood. Until the opening ended, a crash left what it might have left before, or what stands for these
-- rows.
pub record IsLogOpenedWell (plant : List ℕ) (tags : ℕ) (opening : List LogRow) (opened_at : ℕ) (before now : Trace) : Type 0 where
  pub ended : Trace
  pub stood : Shows before (λ c. StandsForRows plant tags c opening)
  pub same : During before ended (IsLeftOrStands plant tags opening before)
  pub at : moment ended ≡ opened_at
  pub later : ComesAfter ended now

-- the same from what the device was when it was handed out, if that is recorded
abbrev pub LogBeganWell : List ℕ → ℕ → List LogRow → ℕ → HandOut → Trace → Type 0
LogBeganWell plant tags opening opened_at handed now =
    IfSome handed.trace (λ before. IsLogOpenedWell plant tags opening opened_at before now)

-- a device that is not new gains one sync, and nothing else
abbrev pub GainsLogSync : Trace → Trace → Type 0
GainsLogSync old new = Shows old (λ c. (IsNew c → ⊥) → new ≡ noted Synced old)

-- a device that is refused gains one sync, and nothing else, whether it is new or not; or a call of it has failed
abbrev pub GainsSyncOnly : LogNo → Trace → Trace → Type 0
GainsSyncOnly why old new = why ≢ DeviceFault → new ≡ noted Synced old

-- ---- why a device is not opened

-- these bytes stand for rows which, together with the room, are so many
pub record IsTooMany (plant : List ℕ) (tags room n : ℕ) (c : List ℕ) : Type 0 where
  pub rows : List LogRow
  pub stands : StandsForRows plant tags c rows
  pub together : n ≡ length rows + room

-- why a device is not opened; its calls decide
abbrev pub IsLogCause : List ℕ → ℕ → ℕ → Trace → LogNo → Type 0
IsLogCause plant tags room o DeviceFault = Unit {0}
IsLogCause plant tags room o (Damaged a byte) = Shows o (λ c. IsLogDamage plant tags c a byte)
IsLogCause plant tags room o (OtherPlant at) = Shows o (λ c. IsOfOther plant c at)
IsLogCause plant tags room o (TooMany n) = (most_rows < n) × Shows o (IsTooMany plant tags room n)
IsLogCause plant tags room o WantOfMemory = Unit {0}

-- how the device counts faults until it is refused
abbrev pub CountsLogRefusal : LogNo → ℕ → ℕ → Type 0
CountsLogRefusal why before now = CountsFault {T = Unit {0}} (Err why) DeviceFault before now

-- the refusal to open a device that could not be read
abbrev pub refusal_of : ScanNo → LogNo
refusal_of scan.DeviceFault = DeviceFault
refusal_of (scan.Damaged a byte) = Damaged a byte
refusal_of scan.WantOfMemory = WantOfMemory

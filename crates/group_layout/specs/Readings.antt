-- What was found on a group's device, and what a device is begun with.
use Rattle.std.specs.Prelude.{◌≡◌, ◌⊎◌, ℕ, ◌^◌, ◌<◌, All, List, length}
use Rattle.trend_num.specs.{CalcValue}
use Rattle.disk_model.specs.{IsNew, MayLeave, Shows, Synced, Trace, noted, seen}
use Rattle.archive_file.specs.{IsEmpty, blocks_at}
use Rattle.group_layout.specs.declared.layout_reader.Found.{Found}
use Rattle.group_layout.specs.declared.layout_reader.Found.TheVariants.{New, Other, Saved}
use Rattle.group_layout.specs.declared.layout_reader.SavedGroup.{SavedGroup}
use Rattle.group_layout.specs.Blocks.{BlockParts, end_of, last_of, unsaved}
use Rattle.group_layout.specs.Images.{HasSaved, IsOfOther, IsUnsaved, StandsFor, letters}
use Rattle.group_layout.specs.Rows.{block_lists_of}

-- this was read from the blocks of a group
pub record IsReadOf (text : List ℕ) (inputs calcs : ℕ) (c : List ℕ) (g : SavedGroup) : Type 0 where
  pub blocks : List BlockParts
  pub has : HasSaved text inputs calcs c blocks (block_lists_of g.rows.items)
  pub number : g.number ≡ (last_of (unsaved inputs) blocks).number
  pub versions : g.versions.items ≡ (last_of (unsaved inputs) blocks).versions
  pub windows : g.windows ≡ (last_of (unsaved inputs) blocks).windows
  pub end : g.end ≡ end_of (blocks_at (length text)) blocks

-- this was found: no finished layout, the layout of another text, or that of this one
abbrev pub IsFound : List ℕ → ℕ → ℕ → Found → List ℕ → Type 0
IsFound text inputs calcs New c = IsNew c
IsFound text inputs calcs Other c = IsOfOther text c
IsFound text inputs calcs (Saved g) c = IsReadOf text inputs calcs c g

-- a saved group has so many versions, and rows of so many calculations, each as long as there are windows
pub record HasShape (inputs calcs : ℕ) (g : SavedGroup) : Type 0 where
  pub versions_are : length g.versions.items ≡ inputs
  pub calcs_are : length g.rows.items ≡ calcs
  pub windows_are : All (λ row. length row ≡ g.windows) (block_lists_of g.rows.items)

-- what was found has this shape
abbrev pub IsShaped : ℕ → ℕ → Found → Type 0
IsShaped inputs calcs New = Unit {0}
IsShaped inputs calcs Other = Unit {0}
IsShaped inputs calcs (Saved g) = HasShape inputs calcs g

-- what was found has fewer than 2^32 windows
abbrev pub HasFewWindows : Found → Type 0
HasFewWindows New = Unit {0}
HasFewWindows Other = Unit {0}
HasFewWindows (Saved g) = g.windows < 2 ^ 32

-- ---- a device that is begun

-- nothing is saved for this text, whether or not the text's own layout is there
abbrev pub SavesNothing : List ℕ → List ℕ → Type 0
SavesNothing text c = IsUnsaved text c ⊎ IsEmpty letters text c

-- ---- while a device is opened

-- an image stands for what these bytes stand for
pub record StandsSame (text : List ℕ) (inputs calcs : ℕ) (before c : List ℕ) : Type 0 where
  pub versions : List ℕ
  pub rows : List (List CalcValue)
  pub stood : StandsFor text inputs calcs before versions rows
  pub stands : StandsFor text inputs calcs c versions rows

-- an image is one that a crash might have left before, or stands for the same
abbrev pub IsLeftOrSame : List ℕ → ℕ → ℕ → Trace → List ℕ → Type 0
IsLeftOrSame text inputs calcs o c = MayLeave o c ⊎ StandsSame text inputs calcs (seen o) c

-- a device that has a finished layout of this text, or a damaged one, gains one sync and nothing else
abbrev pub GainsGroupSync : List ℕ → Trace → Trace → Type 0
GainsGroupSync text old new = Shows old (λ c. (IsUnsaved text c → ⊥) → new ≡ noted Synced old)

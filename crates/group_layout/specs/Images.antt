-- What an image of a group's device stands for, and where it is damaged.
use Rattle.std.specs.Prelude.{◌≡◌, ◌≢◌, ◌⊎◌, ℕ, List, [], codes, length, replicate, Option}
use Rattle.trend_num.specs.{CalcValue}
use Rattle.disk_model.specs.{IsBegun, IsNew}
use Rattle.archive_file.specs.{BreaksFirst, HasHead, IsOfText, blocks_at, head_fields, text_in}
use Rattle.group_layout.specs.Blocks.{BlockParts, AreBlocks, AreDamaged, unsaved, last_of}
use Rattle.group_layout.specs.Rows.{AreRowsOf, IsIncomplete}

-- the letters after the gate of the layout
abbrev pub letters : List ℕ
letters = codes "PHG1"

-- an image has the layout of another definition text
pub record IsOfOther (text c : List ℕ) : Type 0 where
  pub head : HasHead letters c
  pub other : text_in c ≢ text

-- nothing is saved for this text: no layout was finished, or it is that of another text
abbrev pub IsUnsaved : List ℕ → List ℕ → Type 0
IsUnsaved text c = IsNew c ⊎ IsOfOther text c

-- an image has these blocks of a group with this text, so many inputs and so many calculations. They give these rows
pub record HasSaved (text : List ℕ) (inputs calcs : ℕ) (c : List ℕ) (bs : List BlockParts) (rows : List (List CalcValue)) : Type 0 where
  pub of_text : IsOfText letters text c
  pub blocks : AreBlocks c calcs inputs (blocks_at (length text)) bs
  pub rows_are : AreRowsOf calcs (last_of (unsaved inputs) bs).windows bs rows

-- the versions of the last block
abbrev pub saved_versions_of : ℕ → List BlockParts → List ℕ
saved_versions_of inputs bs = (last_of (unsaved inputs) bs).versions

-- What an image stands for. Either it has nothing saved for this text, the versions are 0, and there are no rows. Or it
-- breaks no rule, and its blocks give these versions and rows.
pub data StandsFor (text : List ℕ) (inputs calcs : ℕ) (c : List ℕ) (versions : List ℕ) (rows : List (List CalcValue))
    : Type 0 where
  ByNothing : IsUnsaved text c → versions ≡ replicate inputs 0 → rows ≡ replicate calcs []
      → StandsFor text inputs calcs c versions rows
  ByBlocks : (bs : List BlockParts) → HasSaved text inputs calcs c bs rows → versions ≡ saved_versions_of inputs bs
      → StandsFor text inputs calcs c versions rows

-- the first damage of a group's device that is not new
pub data IsGroupDamage (text : List ℕ) (inputs calcs : ℕ) (c : List ℕ) (a : ℕ) (byte : Option ℕ) : Type 0 where
  BadHead : IsBegun c → BreaksFirst c (head_fields letters c) a byte → IsGroupDamage text inputs calcs c a byte
  BadBlock : IsOfText letters text c → AreDamaged c calcs inputs (blocks_at (length text)) a byte
      → IsGroupDamage text inputs calcs c a byte
  BadRows : (bs : List BlockParts) → IsOfText letters text c → AreBlocks c calcs inputs (blocks_at (length text)) bs
      → IsIncomplete calcs inputs (blocks_at (length text)) bs a byte → IsGroupDamage text inputs calcs c a byte

-- What an image of a plant's log stands for, where it is damaged, and where it is that of another plant.
use Rattle.std.specs.Prelude.{◌≡◌, ◌≢◌, ◌⊎◌, ℕ, ◌<◌, List, [], codes, length, min, take, slice_index, filter, map, nat_eq, Option}
use Rattle.trend_num.specs.{Point}
use Rattle.disk_model.specs.{IsBegun, IsNew}
use Rattle.commit_log.specs.declared.row.LogRow.{LogRow}
use Rattle.archive_file.specs.{BreaksFirst, HasHead, IsEmpty, IsOfText, blocks_at, head_fields, text_in}
use Rattle.commit_log.specs.Blocks.{AreBlocks, IsBlockDamage, rows_of}

-- the letters after the gate of the layout
abbrev pub letters : List ℕ
letters = codes "PHC1"

-- the first place where two texts differ: by a byte, or by the end of the shorter one
pub data DiffersAt (xs ys : List ℕ) (at : ℕ) : Type 0 where
  ByByte : at < length xs → at < length ys → take at xs ≡ take at ys → slice_index xs at ≢ slice_index ys at → DiffersAt xs ys at
  ByEnd : at ≡ min (length xs) (length ys) → take at xs ≡ take at ys → length xs ≢ length ys → DiffersAt xs ys at

-- the layout is that of another plant, whose text first differs at this place
pub record IsOfOther (plant c : List ℕ) (at : ℕ) : Type 0 where
  pub head : HasHead letters c
  pub differs : DiffersAt (text_in c) plant at

-- the image has the log of a plant with so many tags, and these are its blocks
pub record HasLog (plant : List ℕ) (tags : ℕ) (c : List ℕ) (bs : List (List LogRow)) : Type 0 where
  pub of_plant : IsOfText letters plant c
  pub blocks : AreBlocks c tags (blocks_at (length plant)) bs

-- An image stands for rows in two cases. If no layout was finished, it stands for none. If it has the plant's log and
-- breaks no rule, it stands for the rows that its blocks list.
pub data StandsForRows (plant : List ℕ) (tags : ℕ) (c : List ℕ) (rows : List LogRow) : Type 0 where
  ByNothing : IsNew c → rows ≡ [] → StandsForRows plant tags c rows
  ByBlocks : (bs : List (List LogRow)) → HasLog plant tags c bs → rows ≡ rows_of bs → StandsForRows plant tags c rows

-- the first damage of a log that is not new
pub data IsLogDamage (plant : List ℕ) (tags : ℕ) (c : List ℕ) (a : ℕ) (byte : Option ℕ) : Type 0 where
  BadHead : IsBegun c → BreaksFirst c (head_fields letters c) a byte → IsLogDamage plant tags c a byte
  BadBlock : IsOfText letters plant c → IsBlockDamage c tags (blocks_at (length plant)) a byte → IsLogDamage plant tags c a byte

-- there are no rows, whether or not the layout is finished
abbrev pub LogsNothing : List ℕ → List ℕ → Type 0
LogsNothing plant c = IsNew c ⊎ IsEmpty letters plant c

-- the points of a tag among these rows, in order
abbrev pub log_points_of : ℕ → List LogRow → List Point
log_points_of tag rows = map (λ r. r.point) (filter (λ r. nat_eq r.tag tag) rows)

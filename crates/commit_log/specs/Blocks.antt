-- Blocks: the rows that commits left, one block after the other, each after its gate.
use Rattle.std.specs.Prelude.{ℕ, zero, suc, ◌+◌, ◌*◌, ◌<◌, ◌≤◌, ◌&&◌, true, List, [], ◌∷◌, ◌++◌, All, length, flat_map, Option, nat_eq, nat_le, nat_lt, unsigned_abs}
use Rattle.std.specs.Int.{w64, cast_signed}
use Rattle.trend_num.specs.{InRange, last_time, largest_value}
use Rattle.disk_model.specs.{IsOpen, IsShut, Holds}
use Rattle.archive_file.specs.{number_bytes, point_bytes, Field, BreaksFirst, long_at, short_at}
use Rattle.commit_log.specs.declared.row.LogRow.{LogRow}

-- ---- its bytes

-- the bytes of a row: its tag, its collector, its row in the collector's file, its point
abbrev pub row_image : LogRow → List ℕ
row_image r = number_bytes 4 r.tag ++ (number_bytes 4 r.collector ++ (number_bytes 8 r.row ++ point_bytes r.point))

abbrev pub rows_image : List LogRow → List ℕ
rows_image rows = flat_map row_image rows

-- the bytes of a block with these rows; the first row has this number
abbrev pub log_block_image : ℕ → List LogRow → List ℕ
log_block_image number rows = number_bytes 8 number ++ (number_bytes 4 (length rows) ++ rows_image rows)

-- how many bytes it is from its gate to the next one
abbrev pub log_block_size : List LogRow → ℕ
log_block_size rows = 13 + 32 * length rows

-- ---- what a block may have

-- how many rows one block has at most
abbrev pub most_in_block : ℕ
most_in_block = 4096

-- a row of a plant with so many tags: its tag is one of them, and its point is in range
pub record IsLogRow (tags : ℕ) (r : LogRow) : Type 0 where
  pub tag : r.tag < tags
  pub point : InRange r.point

-- the rows of a block: 1 to 4,096, each with one of so many tags and a point in range
pub record AreBlockRows (tags : ℕ) (rows : List LogRow) : Type 0 where
  pub some : 1 ≤ length rows
  pub few : length rows ≤ most_in_block
  pub each : All (IsLogRow tags) rows

-- ---- blocks one after the other

-- the gate at this place is open, and after it comes the block of these rows, whose first has this number
pub record HasBlock (c : List ℕ) (tags number at : ℕ) (rows : List LogRow) : Type 0 where
  pub opened : IsOpen at c
  pub spelled : Holds (at + 1) (log_block_image number rows) c
  pub rows_are : AreBlockRows tags rows

-- these blocks lie one after the other from the gate at a place; their rows are numbered without a gap from this number
abbrev pub HasBlocks : List ℕ → ℕ → ℕ → ℕ → List (List LogRow) → Type 0
HasBlocks c tags number at [] = Unit {0}
HasBlocks c tags number at (b ∷ bs) = HasBlock c tags number at b × HasBlocks c tags (number + length b) (at + log_block_size b) bs

-- the place of the gate after them
abbrev pub log_end_of : ℕ → List (List LogRow) → ℕ
log_end_of at [] = at
log_end_of at (b ∷ bs) = log_end_of (at + log_block_size b) bs

-- all their rows, in order
abbrev pub rows_of : List (List LogRow) → List LogRow
rows_of bs = flat_map (λ b. b) bs

-- these are all blocks from the gate at a place, with rows numbered from 0; the gate after the last one is there, and
-- closed
pub record AreBlocks (c : List ℕ) (tags at : ℕ) (bs : List (List LogRow)) : Type 0 where
  pub blocks : HasBlocks c tags 0 at bs
  pub shut : IsShut (log_end_of at bs) c

-- ---- its fields, and where they first break a rule

-- the row whose bytes lie at a place
abbrev pub row_at : List ℕ → ℕ → LogRow
row_at c at = record {
  tag = short_at c at;
  collector = short_at c (at + 4);
  row = long_at c (at + 8);
  point = record { t = long_at c (at + 16); v = cast_signed w64 (long_at c (at + 24)) };
}

-- the fields of a row: its tag, its collector, its row in the file, its time, and its value
abbrev pub row_fields : ℕ → LogRow → ℕ → List Field
row_fields tags r at =
    record { place = at; size = 4; is_kept = nat_lt r.tag tags }
    ∷ record { place = at + 4; size = 4; is_kept = true }
    ∷ record { place = at + 8; size = 8; is_kept = true }
    ∷ record { place = at + 16; size = 8; is_kept = nat_le r.point.t last_time }
    ∷ record { place = at + 24; size = 8; is_kept = nat_le (unsigned_abs r.point.v) largest_value }
    ∷ []

-- the fields of n rows from a place on
abbrev pub rows_fields : List ℕ → ℕ → ℕ → ℕ → List Field
rows_fields c tags at zero = []
rows_fields c tags at (suc n) = row_fields tags (row_at c at) at ++ rows_fields c tags (at + 32) n

-- the fields in front of a block's rows: the number of its first row, which has to be this one, and how many rows it has
abbrev pub front_fields : List ℕ → ℕ → ℕ → List Field
front_fields c number gate =
    record { place = gate + 1; size = 8; is_kept = nat_eq (long_at c (gate + 1)) number }
    ∷ record { place = gate + 9; size = 4; is_kept = nat_le 1 (short_at c (gate + 9)) && nat_le (short_at c (gate + 9)) most_in_block }
    ∷ []

-- the fields of n rows from a place on, and the next gate
abbrev pub body_fields : List ℕ → ℕ → ℕ → ℕ → List Field
body_fields c tags at n = rows_fields c tags at n ++ record { place = at + 32 * n; size = 1; is_kept = true } ∷ []

-- The fields of the block after the gate at a place, whose first row has this number: that number, how many rows there
-- are, the rows, and the next gate.
abbrev pub block_fields : List ℕ → ℕ → ℕ → ℕ → List Field
block_fields c tags number gate = front_fields c number gate ++ body_fields c tags (gate + 13) (short_at c (gate + 9))

-- after whole blocks there is one that breaks a rule
pub record IsBlockDamage (c : List ℕ) (tags at a : ℕ) (byte : Option ℕ) : Type 0 where
  pub blocks : List (List LogRow)
  pub whole : HasBlocks c tags 0 at blocks
  pub opened : IsOpen (log_end_of at blocks) c
  pub breaks : BreaksFirst c (block_fields c tags (length (rows_of blocks)) (log_end_of at blocks)) a byte

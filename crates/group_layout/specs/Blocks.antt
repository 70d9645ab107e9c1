-- Blocks: what the saves of a group leave, one after the other, each after its gate.
use Rattle.std.specs.Prelude.{◌≡◌, ◌⊎◌, ℕ, ℤ, pos, zero, suc, ◌+◌, ◌*◌, ◌<◌, ◌≤◌, Bool, true, ◌&&◌, ◌||◌, List, [], ◌∷◌, ◌++◌, All, AllPairs, length, flat_map, map, replicate, slice_index, Option, None, Some, nat_eq, nat_le, nat_lt}
use Rattle.std.specs.Prelude.{unsigned_abs, if◌then◌else◌}
use Rattle.std.specs.Ordering.{int_eq}
use Rattle.std.specs.Int.{w64, cast_signed}
use Rattle.disk_model.specs.{IsOpen, IsShut, Holds}
use Rattle.archive_file.specs.{number_bytes, value_bytes, Field, BreaksFirst, EndsIn, Spells, long_at, short_at}
use Rattle.group_layout.specs.declared.block.BlockRow.{BlockRow}
use Rattle.group_layout.specs.declared.block.Block.{Block}

-- what a block records: its number, the versions of the inputs, how many windows are complete, and the rows that
-- changed
pub record BlockParts : Type 0 where
  pub number : ℕ
  pub versions : List ℕ
  pub windows : ℕ
  pub rows : List BlockRow

-- what a block in memory records
abbrev pub parts_of : Block → BlockParts
parts_of b = record { number = b.number; versions = b.versions.items; windows = b.windows; rows = b.rows.items }

-- what counts before the first save: so many inputs at version 0
abbrev pub unsaved : ℕ → BlockParts
unsaved inputs = record { number = 0; versions = replicate inputs 0; windows = 0; rows = [] }

-- ---- its bytes

abbrev pub row_image : BlockRow → List ℕ
row_image r = number_bytes 4 r.calc ++ (number_bytes 4 r.window ++ (number_bytes 1 r.kind ++ value_bytes r.value))

abbrev pub versions_image : List ℕ → List ℕ
versions_image versions = flat_map (number_bytes 4) versions

abbrev pub rows_image : List BlockRow → List ℕ
rows_image rows = flat_map row_image rows

abbrev pub block_image : BlockParts → List ℕ
block_image b = number_bytes 8 b.number ++ (versions_image b.versions ++ (number_bytes 4 b.windows
    ++ (number_bytes 4 (length b.rows) ++ rows_image b.rows)))

-- how many bytes a block takes, from its gate to the next one
abbrev pub block_size : BlockParts → ℕ
block_size b = 17 + 4 * length b.versions + 17 * length b.rows

-- ---- what a block may record

-- a number is at most 10^18 from 0; a row without a number has a zero in its place
abbrev pub is_value_ok : ℕ → ℤ → Bool
is_value_ok kind value = if nat_eq kind 0 then nat_le (unsigned_abs value) 1000000000000000000 else int_eq value (pos 0)

-- a row belongs to one of so many calculations, and to one of so many windows
pub record IsRow (calcs windows : ℕ) (r : BlockRow) : Type 0 where
  pub calc : r.calc < calcs
  pub window : r.window < windows
  pub kind : r.kind ≤ 3
  pub value : is_value_ok r.kind r.value ≡ true

-- whether a calculation and a window come before later ones: sorted by calculation, and then by window
abbrev pub comes_before : ℕ → ℕ → ℕ → ℕ → Bool
comes_before calc window later_calc later_window =
    nat_lt calc later_calc || (nat_eq calc later_calc && nat_lt window later_window)

-- a row comes before another
pub record IsBefore (r s : BlockRow) : Type 0 where
  pub order : comes_before r.calc r.window s.calc s.window ≡ true

-- these rows are sorted and without repeats
pub record AreRows (calcs windows : ℕ) (rows : List BlockRow) : Type 0 where
  pub each : All (IsRow calcs windows) rows
  pub sorted : AllPairs IsBefore rows

-- a block may follow another: numbers rise by one, and versions and windows never fall
pub record MayFollow (calcs : ℕ) (before b : BlockParts) : Type 0 where
  pub number : b.number ≡ before.number + 1
  pub inputs : length b.versions ≡ length before.versions
  pub rises : (i : ℕ) → i < length before.versions → slice_index before.versions i ≤ slice_index b.versions i
  pub windows : before.windows ≤ b.windows
  pub rows : AreRows calcs b.windows b.rows

-- ---- blocks one after the other

-- a block that may follow `before` is there, after its open gate at `at`
pub record HasBlock (c : List ℕ) (calcs : ℕ) (before b : BlockParts) (at : ℕ) : Type 0 where
  pub opened : IsOpen at c
  pub spelled : Holds (at + 1) (block_image b) c
  pub follows : MayFollow calcs before b

-- these blocks follow one another from the gate at `at`, the first of them after `before`
abbrev pub HasBlocks : List ℕ → ℕ → BlockParts → ℕ → List BlockParts → Type 0
HasBlocks c calcs before at [] = Unit {0}
HasBlocks c calcs before at (b ∷ bs) = HasBlock c calcs before b at × HasBlocks c calcs b (at + block_size b) bs

-- the last of them, and where they end
abbrev pub last_of : BlockParts → List BlockParts → BlockParts
last_of before [] = before
last_of before (b ∷ bs) = last_of b bs

abbrev pub end_of : ℕ → List BlockParts → ℕ
end_of at [] = at
end_of at (b ∷ bs) = end_of (at + block_size b) bs

-- the last of the blocks in memory, or `first` if there is none
abbrev pub last_read : Block → List Block → BlockParts
last_read first bs = last_of (parts_of first) (map parts_of bs)

-- a block that may follow `before` was added to those in memory. These are the bytes from its gate on, and so many of
-- them come before the next gate.
pub record AddsBlock (c : List ℕ) (calcs : ℕ) (before : BlockParts) (old new : List Block) (size : ℕ) : Type 0 where
  pub block : Block
  pub are : new ≡ old ++ block ∷ []
  pub spelled : Spells c 1 (block_image (parts_of block)) size
  pub follows : MayFollow calcs before (parts_of block)
  pub size_is : size ≡ block_size (parts_of block)

-- these are all blocks from the gate at a place: the gate after the last one is there, and closed
pub record AreBlocks (c : List ℕ) (calcs inputs at : ℕ) (bs : List BlockParts) : Type 0 where
  pub blocks : HasBlocks c calcs (unsaved inputs) at bs
  pub shut : IsShut (end_of at bs) c

-- ---- the fields of a block, and where they first break a rule

-- the fields of the versions. The version of an input must be no less than its version in the block before
abbrev pub version_fields : List ℕ → List ℕ → ℕ → List Field
version_fields c [] at = []
version_fields c (v ∷ versions) at =
    record { place = at; size = 4; is_kept = nat_le v (short_at c at) } ∷ version_fields c versions (at + 4)

-- the row at a place
abbrev pub row_at : List ℕ → ℕ → BlockRow
row_at c at = record {
  calc = short_at c at;
  window = short_at c (at + 4);
  kind = slice_index c (at + 8);
  value = cast_signed w64 (long_at c (at + 9));
}

-- whether a row may come after the last one, if there is one: by its calculation, and by its window too
abbrev pub is_calc_in_order : Option BlockRow → BlockRow → Bool
is_calc_in_order None r = true
is_calc_in_order (Some last) r = nat_le last.calc r.calc

abbrev pub is_in_order : Option BlockRow → BlockRow → Bool
is_in_order None r = true
is_in_order (Some last) r = comes_before last.calc last.window r.calc r.window

-- the fields of a row after the last one: its calculation, its window, its kind, and its value
abbrev pub row_fields : ℕ → ℕ → Option BlockRow → BlockRow → ℕ → List Field
row_fields calcs windows last r at =
    record { place = at; size = 4; is_kept = nat_lt r.calc calcs && is_calc_in_order last r }
    ∷ record { place = at + 4; size = 4; is_kept = nat_lt r.window windows && is_in_order last r }
    ∷ record { place = at + 8; size = 1; is_kept = nat_le r.kind 3 }
    ∷ record { place = at + 9; size = 8; is_kept = is_value_ok r.kind r.value }
    ∷ []

-- the fields of n rows that begin at a place, after the last one
abbrev pub rows_fields : List ℕ → ℕ → ℕ → Option BlockRow → ℕ → ℕ → List Field
rows_fields c calcs windows last at zero = []
rows_fields c calcs windows last at (suc n) =
    row_fields calcs windows last (row_at c at) at ++ rows_fields c calcs windows (Some (row_at c at)) (at + 17) n

-- the fields of a block after the gate at a place, which follows `before`: its number, the versions, the windows, how
-- many rows changed, these rows, and the next gate
abbrev pub block_fields : List ℕ → ℕ → BlockParts → ℕ → List Field
block_fields c calcs before at =
    let versions_at = at + 9 in
    let windows_at = versions_at + 4 * length before.versions in
    let rows_at = windows_at + 8 in
    let count = short_at c (windows_at + 4) in
    record { place = at + 1; size = 8; is_kept = nat_eq (long_at c (at + 1)) (before.number + 1) }
    ∷ (version_fields c before.versions versions_at
    ++ (record { place = windows_at; size = 4; is_kept = nat_le before.windows (short_at c windows_at) }
    ∷ record { place = windows_at + 4; size = 4; is_kept = true }
    ∷ (rows_fields c calcs (short_at c windows_at) None rows_at count
    ++ record { place = rows_at + 17 * count; size = 1; is_kept = true } ∷ [])))

-- a block after whole blocks breaks a rule
pub record IsBlockDamage (c : List ℕ) (calcs inputs at a : ℕ) (byte : Option ℕ) : Type 0 where
  pub blocks : List BlockParts
  pub whole : HasBlocks c calcs (unsaved inputs) at blocks
  pub opened : IsOpen (end_of at blocks) c
  pub breaks : BreaksFirst c (block_fields c calcs (last_of (unsaved inputs) blocks) (end_of at blocks)) a byte

-- the first gate is not there
abbrev pub EndsBeforeGate : List ℕ → ℕ → ℕ → Option ℕ → Type 0
EndsBeforeGate c at a byte = EndsIn c (record { place = at; size = 1; is_kept = true }) a byte

-- the first damage of blocks from the gate at a place
abbrev pub AreDamaged : List ℕ → ℕ → ℕ → ℕ → ℕ → Option ℕ → Type 0
AreDamaged c calcs inputs at a byte = EndsBeforeGate c at a byte ⊎ IsBlockDamage c calcs inputs at a byte

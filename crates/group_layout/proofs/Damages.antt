-- Where a group's device is damaged, from what was read of it.
use Rattle.std.proofs.Common.{arith, ℕ, List, length, Option}
use Rattle.disk_model.specs.{Shows, IsBegun, Trace}
use Rattle.archive_file.specs.{BreaksFirst, IsOfText, blocks_at, head_fields}
use Rattle.archive_file.proofs.ReadImages.{shows_both}
use Rattle.group_layout.specs.{AreBlocks, AreDamaged, BlockParts, IsGroupDamage, letters, IsIncomplete}
use Rattle.group_layout.specs.Images.IsGroupDamage.{BadRows}

module _ (o : Trace) (text : List ℕ) (inputs calcs a : ℕ) (byte : Option ℕ) where
  -- in its head
  pub head_damage : Shows o IsBegun → Shows o (λ c. BreaksFirst c (head_fields letters c) a byte)
      → Shows o (λ c. IsGroupDamage text inputs calcs c a byte)
  head_damage begun breaks = grind (arith, shows_both)

  -- in a block
  pub block_damage : Shows o (IsOfText letters text) → Shows o (λ c. AreDamaged c calcs inputs (blocks_at (length text)) a byte)
      → Shows o (λ c. IsGroupDamage text inputs calcs c a byte)
  block_damage is breaks = grind (arith, shows_both)

  -- in what the blocks give
  pub rows_damage : (bs : List BlockParts) → Shows o (IsOfText letters text)
      → Shows o (λ c. AreBlocks c calcs inputs (blocks_at (length text)) bs) → IsIncomplete calcs inputs (blocks_at (length text)) bs a byte
      → Shows o (λ c. IsGroupDamage text inputs calcs c a byte)
  rows_damage bs is blocks missing =
      shows_both o (IsOfText letters text) (λ c. AreBlocks c calcs inputs (blocks_at (length text)) bs)
      (λ c. IsGroupDamage text inputs calcs c a byte) (λ c first second. BadRows bs first second missing) is blocks

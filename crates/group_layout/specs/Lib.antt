pub mod Blocks
pub mod Rows
pub mod Images
pub mod Readings
pub mod Texts
pub use Blocks.{BlockParts, parts_of, unsaved, row_image, versions_image, rows_image, block_image, block_size, is_value_ok, IsRow, comes_before, IsBefore, AreRows, MayFollow, HasBlock, HasBlocks, last_of, end_of, last_read, AddsBlock}
pub use Blocks.{AreBlocks, version_fields, row_at, is_calc_in_order, is_in_order, row_fields, rows_fields, block_fields, AreDamaged}
pub use Rows.{block_lists_of, value_of, with_row, is_at, listed_from, rows_of_blocks, saved_value, cell_of, AreRowsOf, IsIncomplete}
pub use Images.{letters, IsUnsaved, HasSaved, StandsFor, ByNothing, ByBlocks, IsGroupDamage, BadHead, BadBlock, BadRows}
pub use Readings.{IsReadOf, IsFound, HasShape, SavesNothing, StandsSame, IsLeftOrSame, GainsGroupSync}
pub use Texts.{name_text, names_text, calcs_text, definition_text}
pub use declared.block.Block.{Block}
pub use declared.block.BlockRow.{BlockRow}
pub use declared.block_reader.GroupReader.{GroupReader}
pub use declared.layout_reader.Found.{Found}
pub use declared.layout_reader.SavedGroup.{SavedGroup}

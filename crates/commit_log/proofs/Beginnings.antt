-- What a crash leaves while a plant's log is begun on a device.
use Rattle.std.proofs.Common.{◌≡◌, ℕ, ◌*◌, List, [], ◌∷◌, ◌++◌, length, refl, arith, length-append}
use Rattle.disk_model.specs.{Trace, IsSettled, During, Shows, IsNew}
use Rattle.disk_model.proofs.Moments.{started, weaker}
use Rattle.commit_log.specs.{LogRow, log_block_image, log_block_size, row_image, rows_image, LogsNothing}
use Rattle.archive_file.proofs.ReadImages.{shown_now}

-- ---- a device is begun

-- no rows are on a new device as long as nothing was called
pub nothing_yet : (plant : List ℕ) (o : Trace) → Shows o IsNew → IsSettled o → During o o (LogsNothing plant)
nothing_yet plant o is settled = grind (arith, weaker, started, shown_now)

-- ---- a block

-- how many bytes the rows have
length-rows_image : (rows : List LogRow) → length (rows_image rows) ≡ 32 * length rows
length-rows_image [] = refl
length-rows_image (r ∷ rows) = omega (arith, length-append (row_image r) (rows_image rows), length-rows_image rows)

-- how many bytes a block has
pub length-block_image : (number : ℕ) (rows : List LogRow) → length (log_block_image number rows ++ 0 ∷ []) ≡ log_block_size rows
length-block_image number rows = grind (arith, length-append, length-rows_image)

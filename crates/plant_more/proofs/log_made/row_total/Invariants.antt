use Rattle.std.proofs.Common.{◌≡◌, take}
use Rattle.plant_more.specs.{row_lists_of, total_rows}
use Rattle.plant_more.proofs.log_made.row_total.Given as goal

abbrev pub invariant-loop-file : goal.invariant-loop-file
invariant-loop-file l = l.total ≡ total_rows (row_lists_of (take l.file-index l.files))

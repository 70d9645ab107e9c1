use Rattle.std.proofs.Common.{◌≡◌, ◌++◌, take}
use Rattle.group_layout.specs.{rows_image}
use Rattle.group_layout.proofs.writer.put_rows.Given as goal

abbrev pub invariant-loop-row : goal.invariant-loop-row
invariant-loop-row l = l.bytes.items ≡ l.initial.bytes.items ++ rows_image (take l.row-index l.rows)

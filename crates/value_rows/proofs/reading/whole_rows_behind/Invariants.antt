use Rattle.value_rows.specs.{reads_behind}
use Rattle.value_rows.proofs.SoFar.{AreSoFar}
use Rattle.value_rows.proofs.reading.whole_rows_behind.Given as goal

abbrev pub invariant-loop-count : goal.invariant-loop-count
invariant-loop-count g l =
    AreSoFar (g.F.Form.is_row l.form) (g.F.Form.row_of l.form)
    (reads_behind (g.F.Form.row_of l.form) l.fn.front.items l.fn.bytes) l.fn.most l.reader l.rows.items l.count

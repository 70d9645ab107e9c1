use Rattle.std.proofs.Common.{arith}
use Rattle.std.proofs.lemmas.Result.{err_from_is_err_and}
use Rattle.archive_file.proofs.FieldLaws.{told_through}
use Rattle.commit_log.proofs.RowLaws.{adds_more, row_breaks, row_more}
use Rattle.commit_log.proofs.row_reader.read_rows.Goals as goal

pub returns-in_err-row-clause-damaged : goal.returns-in_err-row-clause-damaged
returns-in_err-row-clause-damaged g c = λ a byte told.
    let x = c.args in
    let out = err_from_is_err_and c.from_residual.result c.from_residual.ensures.1 in
    row_breaks g.C.Rest.rest x.tags x.at c.loop.next x.count c.loop.counter c.loop-test.true c.loop.invariant.kept a byte
    (c.in_err-row.ensures.damaged a byte (told_through c.from_residual.result out.0 _ a byte out.1 out.2 told))

pub loop-preserved : goal.loop-preserved
loop-preserved g c = grind (arith, adds_more, row_more)

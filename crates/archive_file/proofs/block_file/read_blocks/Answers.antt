use Rattle.std.proofs.Common.{ap, arith}
use Rattle.std.proofs.lemmas.Result.{err_from_is_err_and}
use Rattle.disk_model.specs.{seen}
use Rattle.archive_file.proofs.BlockFiles.{broken_next, read_next}
use Rattle.archive_file.proofs.FieldLaws.{told_through}
use Rattle.archive_file.proofs.block_file.read_blocks.Goals as goal

pub returns-in_err-size-clause-damaged : goal.returns-in_err-size-clause-damaged
returns-in_err-size-clause-damaged g c = λ a byte told.
    let s = seen (g.D.Disk.device c.args.dev.now).trace in
    let out = err_from_is_err_and c.from_residual.result c.from_residual.ensures.1 in
    let is = told_through c.from_residual.result out.0 c.in_err-size.field-0.0 a byte out.1 out.2 told in
    broken_next g.R.BlockReader.adds s g.R.BlockReader.fields c.args.reader.now c.args.at c.walk.reader c.walk.next a byte
    (seen (g.D.Disk.device c.walk.dev).trace) c.walk.invariant.walked (omega (arith, c.walk.invariant.low, c.walk.invariant.long))
    (ap seen c.walk.invariant.same) (c.in_err-size.ensures.damaged_open a byte is) (c.in_err-size.ensures.damaged a byte is)

pub walk-preserved : goal.walk-preserved
walk-preserved g c = grind (arith, read_next)

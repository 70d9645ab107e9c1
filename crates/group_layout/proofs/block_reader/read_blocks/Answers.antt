use Rattle.std.proofs.Common.{arith}
use Rattle.std.proofs.lemmas.Result.{err_from_is_err_and}
use Rattle.disk_model.specs.{seen}
use Rattle.archive_file.proofs.FieldLaws.{told_through}
use Rattle.group_layout.proofs.Walks.{all_blocks, breaks_there, end_there, versions_there}
use Rattle.group_layout.proofs.block_reader.read_blocks.Goals as goal

pub returns-in_err-end-clause-damaged : goal.returns-in_err-end-clause-damaged
returns-in_err-end-clause-damaged g c = λ a byte told.
    let out = err_from_is_err_and c.from_residual-in_err-end.result c.from_residual-in_err-end.ensures.1 in
    let is = told_through c.from_residual-in_err-end.result out.0 c.in_err-end.field-0.0 a byte out.1 out.2 told in
    breaks_there (seen (g.D.Disk.device c.args.dev.now).trace) c.args.at c.args.inputs _ c.new.ensures.items c.in_ok-unsaved.ensures.unsaved a byte
    (rw c.in-Ok.ensures.same at c.in_err-end.ensures.damaged a byte is)

pub returns-clause-blocks : goal.returns-clause-blocks
returns-clause-blocks g c =
    all_blocks (seen (g.D.Disk.device c.args.dev.now).trace) c.args.at c.args.inputs _ c.new.ensures.items c.in_ok-unsaved.ensures.unsaved
    c.read_blocks.new.reader c.in_ok-end.end (rw c.in-Ok.ensures.same at c.in_ok-end.ensures.blocks)

pub returns-clause-end : goal.returns-clause-end
returns-clause-end g c = grind (arith, end_there)

pub returns-clause-versions : goal.returns-clause-versions
returns-clause-versions g c = grind (arith, versions_there)

use Rattle.std.proofs.Common.{arith}
use Rattle.std.proofs.lemmas.Result.{err_from_is_err_and}
use Rattle.disk_model.specs.{seen}
use Rattle.archive_file.proofs.FieldLaws.{told_through}
use Rattle.commit_log.proofs.Walks.{breaks_there, lists_all, rows_all}
use Rattle.commit_log.proofs.block_reader.read_blocks.Goals as goal

pub returns-in_err-end-clause-damaged : goal.returns-in_err-end-clause-damaged
returns-in_err-end-clause-damaged g c = λ a byte told.
    let x = c.args in
    let out = err_from_is_err_and c.from_residual.result c.from_residual.ensures.1 in
    let is = told_through c.from_residual.result out.0 c.in_err-end.field-0.0 a byte out.1 out.2 told in
    breaks_there (seen (g.D.Disk.device x.dev.now).trace) x.at _ c.in-Ok-with_capacity.ensures.items a byte c.requires.gate
    (rw c.in-Ok.ensures.same at c.in_err-end.ensures.damaged a byte is)

pub returns-clause-stored : goal.returns-clause-stored
returns-clause-stored g c =
    lists_all (seen (g.D.Disk.device c.args.dev.now).trace) c.args.at _ c.in-Ok-with_capacity.ensures.items c.read_blocks.new.reader
    c.in_ok-end.end (rw c.in-Ok.ensures.same at c.in_ok-end.ensures.blocks)

pub returns-clause-rows : goal.returns-clause-rows
returns-clause-rows g c = grind (arith, rows_all)

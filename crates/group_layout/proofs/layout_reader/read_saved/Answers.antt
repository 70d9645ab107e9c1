use Rattle.std.proofs.Common.{arith}
use Rattle.std.proofs.lemmas.Result.{err_from_is_err_and}
use Rattle.archive_file.proofs.FieldLaws.{told_through}
use Rattle.group_layout.proofs.Damages.{block_damage, rows_damage}
use Rattle.group_layout.proofs.layout_reader.read_saved.Goals as goal

pub returns-in_err-blocks-clause-damaged : goal.returns-in_err-blocks-clause-damaged
returns-in_err-blocks-clause-damaged g c = grind (arith, err_from_is_err_and, block_damage, told_through)

pub returns-clause-damaged : goal.returns-clause-damaged
returns-clause-damaged g c = λ a byte told.
    let x = c.args in
    rows_damage (g.D.Disk.device x.dev.now).trace x.text.now x.inputs x.calcs a byte _ c.requires c.in_ok-blocks.ensures.blocks
    (c.gather.ensures.damaged a byte told)

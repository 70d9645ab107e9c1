use Rattle.std.proofs.Common.{arith, subst}
use Rattle.std.proofs.lemmas.Result.{err_from_is_err_and}
use Rattle.disk_model.specs.{Shows}
use Rattle.archive_file.proofs.FieldLaws.{told_through}
use Rattle.group_layout.specs.{IsGroupDamage}
use Rattle.group_layout.proofs.Damages.{head_damage}
use Rattle.group_layout.proofs.layout_reader.read_group.Goals as goal

pub returns-in_err-found-clause-damaged : goal.returns-in_err-found-clause-damaged
returns-in_err-found-clause-damaged g c = grind (arith, err_from_is_err_and, told_through, head_damage)

pub returns-in_err-saved-clause-damaged : goal.returns-in_err-saved-clause-damaged
returns-in_err-saved-clause-damaged g c = λ a byte told.
    let x = c.args in
    let sent = c.from_residual-in_err-saved in
    let out = err_from_is_err_and sent.result sent.ensures.1 in
    subst (λ o. Shows o (λ i. IsGroupDamage x.text.now x.inputs x.calcs i a byte)) c.read_text.ensures.same
    (c.in_err-saved.ensures.damaged a byte (told_through sent.result out.0 _ a byte out.1 out.2 told))

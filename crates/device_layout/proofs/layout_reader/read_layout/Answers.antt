use Rattle.std.proofs.Common.{arith}
use Rattle.std.proofs.lemmas.Result.{err_from_is_err_and}
use Rattle.disk_model.specs.{IsBegun}
use Rattle.device_layout.proofs.{Shows.shows_before, Shows.shows_after, Reading.cause_before, Reading.of_tag, Reading.is_other}
use Rattle.device_layout.proofs.layout_reader.read_layout.Goals as goal

pub returns-in_err-header-clause-cause : goal.returns-in_err-header-clause-cause
returns-in_err-header-clause-cause g c =
    let p = err_from_is_err_and c.from_residual.result c.from_residual.ensures.1 in
    rw (p.1, p.2)
    (cause_before c.args.def.now _ _ _ c.in-Ok.ensures.same
    (c.in_err-header.ensures.cause c.args.def.now (shows_after _ _ IsBegun c.in-Ok.ensures.same c.requires)))

pub returns-in_err-check_tag-clause-cause : goal.returns-in_err-check_tag-clause-cause
returns-in_err-check_tag-clause-cause g c =
    let h = c.in_ok-header.header in
    let p = err_from_is_err_and c.from_residual-in_err-check_tag.result c.from_residual-in_err-check_tag.ensures.1 in
    rw (p.1, p.2)
    (grind (arith, is_other, shows_before))

pub returns-in_err-check_tag-clause-counts : goal.returns-in_err-check_tag-clause-counts
returns-in_err-check_tag-clause-counts g c = grind (arith, err_from_is_err_and)

pub returns-then-len-log_start-clause-cause : goal.returns-then-len-log_start-clause-cause
returns-then-len-log_start-clause-cause g c = grind (arith, shows_before, of_tag)

pub returns-clause-layout : goal.returns-clause-layout
returns-clause-layout g c = grind (arith, shows_before, of_tag)

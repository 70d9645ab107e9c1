use Rattle.std.proofs.lemmas.Result.{err_from_is_err_and}
use Rattle.device_layout.specs.{IsFoundOn}
use Rattle.device_layout.proofs.{Shows.shows_after, Reading.cause_before}
use Rattle.crash_recovery.proofs.PartsFound.{read_from}
use Rattle.crash_recovery.proofs.parts.read_parts.Goals as goal

pub returns-clause-stored : goal.returns-clause-stored
returns-clause-stored g c def same_step layout =
    read_from def (g.D.Disk.device c.args.dev.now).trace c.args.header.now.slots c.args.step c.in_ok-stored.stored same_step c.in_ok-test_parts.ensures.parts
    (c.in_ok-stored.ensures.found def layout)

pub returns-in_err-stored-clause-cause : goal.returns-in_err-stored-clause-cause
returns-in_err-stored-clause-cause g c def same_step layout =
    let p = err_from_is_err_and c.from_residual.result c.from_residual.ensures.1 in
    rw (p.1, p.2) (c.in_err-stored.ensures.cause def layout)

pub returns-in_err-test_parts-clause-cause : goal.returns-in_err-test_parts-clause-cause
returns-in_err-test_parts-clause-cause g c def same_step layout =
    let slots = c.args.header.now.slots in
    let p = err_from_is_err_and c.from_residual-in_err-test_parts.result c.from_residual-in_err-test_parts.ensures.1 in
    rw (p.1, p.2) (cause_before def _ _ _ c.in_ok-stored.ensures.same
    (c.in_err-test_parts.ensures.cause def slots same_step
    (shows_after _ _ (IsFoundOn def slots c.in_ok-stored.stored) c.in_ok-stored.ensures.same (c.in_ok-stored.ensures.found def layout))))

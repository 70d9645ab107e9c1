use Rattle.std.proofs.lemmas.Result.{err_from_is_err_and}
use Rattle.plant_more.specs.{row_lists_of}
use Rattle.plant_more.proofs.LogCommitting.{same_log_on}
use Rattle.plant_more.specs.LogRefusals.{OfPut, OfStop}
use Rattle.plant_more.proofs.LogSettled.{at_ok, begun_on, commit_refused, found_begun, made_on}
use Rattle.plant_more.proofs.log_settling.complete.Goals as goal

pub returns-in_err-check_endings-clause-refused : goal.returns-in_err-check_endings-clause-refused
returns-in_err-check_endings-clause-refused g c =
    let p = err_from_is_err_and c.from_residual.result c.from_residual.ensures.1 in
    rw (p.1, p.2) (OfStop c.in_err-check_endings.ensures.stopped)

pub returns-in_err-put_missing-clause-refused : goal.returns-in_err-put_missing-clause-refused
returns-in_err-put_missing-clause-refused g c =
    let p = err_from_is_err_and c.from_residual-in_err-put_missing.result c.from_residual-in_err-put_missing.ensures.1 in
    let good = c.in_ok-check_endings.ensures in
    rw (p.1, p.2) (OfPut (record { none_halted = good.none_halted; all_found = good.all_found }) c.in_err-put_missing.ensures.refused)

pub returns-clause-made : goal.returns-clause-made
returns-clause-made g c =
    made_on (row_lists_of c.args.files.now) c.put_missing.new.log c.commit_rest.new.log c.commit_rest.result c.commit_rest.ensures.committed
    c.in_ok-put_missing.ensures.whole c.commit_rest.ensures.none_waits

pub returns-clause-same : goal.returns-clause-same
returns-clause-same g c = same_log_on _ _ _ c.put_missing.ensures.same c.commit_rest.ensures.committed.same

pub returns-clause-refused : goal.returns-clause-refused
returns-clause-refused g c =
    let good = c.in_ok-check_endings.ensures in
    commit_refused (g.D.Disk.device c.commit_rest.new.log.dev).faults (row_lists_of c.args.files.now) c.args.notes.now c.commit_rest.new.log c.commit_rest.result
    (record { none_halted = good.none_halted; all_found = good.all_found }) c.commit_rest.ensures.refused

pub returns-in_err-check_endings-clause-begun : goal.returns-in_err-check_endings-clause-begun
returns-in_err-check_endings-clause-begun g c = found_begun (row_lists_of c.args.files.now) _ c.args.next.now c.requires.found

pub returns-in_err-put_missing-clause-begun : goal.returns-in_err-put_missing-clause-begun
returns-in_err-put_missing-clause-begun g c = found_begun (row_lists_of c.args.files.now) _ _ c.put_missing.ensures.found

pub returns-clause-begun : goal.returns-clause-begun
returns-clause-begun g c =
    begun_on (row_lists_of c.args.files.now) c.put_missing.new.log c.commit_rest.new.log c.commit_rest.ensures.committed
    (found_begun (row_lists_of c.args.files.now) _ _ c.put_missing.ensures.found)

pub returns-clause-ended : goal.returns-clause-ended
returns-clause-ended g c =
    let good = c.in_ok-check_endings.ensures in
    at_ok c.commit_rest.result (record { none_halted = good.none_halted; all_found = good.all_found })

use Rattle.std.proofs.lemmas.Result.{err_from_is_err_and}
use Rattle.plant_more.specs.{row_lists_of}
use Rattle.plant_more.specs.LogRefusals.{OfFinding, OfOpening}
use Rattle.plant_more.proofs.LogSettled.{mismatch_is_opening, opening_foreign, put_foreign, rows_on}
use Rattle.plant_more.proofs.log_settling.settle.Goals as goal

pub returns-in_err-compare_log-clause-known : goal.returns-in_err-compare_log-clause-known
returns-in_err-compare_log-clause-known g c =
    let p = err_from_is_err_and c.from_residual.result c.from_residual.ensures.1 in
    rw (p.1, p.2) (λ none. absurd (none (mismatch_is_opening _ _ _ c.in_err-compare_log.ensures.differs)))

pub returns-in_err-compare_log-clause-refused : goal.returns-in_err-compare_log-clause-refused
returns-in_err-compare_log-clause-refused g c =
    let p = err_from_is_err_and c.from_residual.result c.from_residual.ensures.1 in
    rw (p.1, p.2) (OfOpening c.in_err-compare_log.ensures.differs)

pub returns-in_err-find_puts-clause-refused : goal.returns-in_err-find_puts-clause-refused
returns-in_err-find_puts-clause-refused g c =
    let p = err_from_is_err_and c.from_residual-in_err-find_puts.result c.from_residual-in_err-find_puts.ensures.1 in
    rw (p.1, p.2) (OfFinding c.in_ok-compare_log.ensures.same (rw c.tape.ensures.tape at c.in_err-find_puts.ensures.differs))

pub complete-requires-clause-rows : goal.complete-requires-clause-rows
complete-requires-clause-rows g c = rows_on (row_lists_of c.args.files.now) _ c.args.known.now c.in_ok-compare_log.ensures.same c.requires.rows

pub returns-in_err-compare_log-clause-begun : goal.returns-in_err-compare_log-clause-begun
returns-in_err-compare_log-clause-begun g c =
    let p = err_from_is_err_and c.from_residual.result c.from_residual.ensures.1 in
    rw (p.1, p.2) (λ none. absurd (none (opening_foreign _ (mismatch_is_opening _ _ _ c.in_err-compare_log.ensures.differs))))

pub returns-in_err-find_puts-clause-begun : goal.returns-in_err-find_puts-clause-begun
returns-in_err-find_puts-clause-begun g c =
    let p = err_from_is_err_and c.from_residual-in_err-find_puts.result c.from_residual-in_err-find_puts.ensures.1 in
    rw (p.1, p.2) (λ none. absurd (none (put_foreign _ _ _ c.in_err-find_puts.ensures.differs)))

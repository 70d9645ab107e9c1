use Rattle.std.proofs.Common.{◌≡◌, ◌∙◌, length, OnOk, ap, sym, subst}
use Rattle.calc_refresh.specs.{lists_of}
use Rattle.session_audit.specs.BookOpenings.DifferSo.{InNumber}
use Rattle.session_audit.proofs.Items.{opened_same, rows_counted}
use Rattle.session_audit.proofs.book_opening.compare_opening.Goals as goal

pub returns-in-Err-clause-differs : goal.returns-in-Err-clause-differs
returns-in-Err-clause-differs c = InNumber c.in-Err.ensures.differs.0 c.in-Err.ensures.differs.1

pub compare_rows-requires : goal.compare_rows-requires
compare_rows-requires c = record {
  as_many = ap length c.deref.ensures.value ∙ (rows_counted c.args.found.now c.args.known.now c.in_default.ensures.same
      ∙ sym (ap length c.deref-2.ensures.value));
}

pub returns-clause-same : goal.returns-clause-same
returns-clause-same c =
    opened_same c.args.found.now c.args.known.now c.compare_rows.result c.in_default.ensures.same
    (subst (λ k. OnOk c.compare_rows.result (lists_of c.args.found.now.rows.items ≡ lists_of k)) c.deref-2.ensures.value
    (subst (λ f. OnOk c.compare_rows.result (lists_of f ≡ lists_of c.deref-2.result.now)) c.deref.ensures.value
    c.compare_rows.ensures.same))

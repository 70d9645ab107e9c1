use Rattle.std.proofs.Common.{◌∙◌, Some, ap, sym, arith}
use Rattle.std.proofs.lemmas.Option.{slice_get-get_or}
use Rattle.session_audit.proofs.Each.{paired_next}
use Rattle.session_audit.proofs.opening.compare_all.Goals as goal

pub returns-in-Err-clause-differs : goal.returns-in-Err-clause-differs
returns-in-Err-clause-differs g c =
    let at = c.loop-number.number in
    let one = c.index-opened-number.result in
    let k = c.index-known-number.result in (
      at,
      c.unit_of.ensures,
      record {
        one = one;
        copy = k;
        there = slice_get-get_or c.args.opened.now at one c.loop-number-test.true ∙ ap Some (sym c.index-opened-number.is);
        copy_there = slice_get-get_or c.args.known.now at k (omega (arith, c.loop-number-test.true, c.requires.as_many))
            ∙ ap Some (sym c.index-known-number.is);
        differing = c.in-Err.ensures.differs;
        front = c.loop-number.invariant;
      },
    )

pub loop-number-preserved : goal.loop-number-preserved
loop-number-preserved g c = λ i one k below.
    paired_next g.T.Opened.is_as_kept c.args.opened.now c.args.known.now c.loop-number.number c.index-opened-number.result
    c.index-known-number.result c.loop-number-test.true c.requires.as_many c.index-opened-number.is c.index-known-number.is
    c.loop-number.invariant c.in_default.ensures.same i one k (omega (arith, below))

pub returns-clause-same : goal.returns-clause-same
returns-clause-same g c = record {
  each = λ i one k below. c.loop-number.invariant i one k (omega (arith, below, c.loop-number-test.false, c.loop-number.auto));
}

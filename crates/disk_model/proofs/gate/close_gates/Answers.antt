use Rattle.std.proofs.Common.{rules, arith, ◌∙◌}
use Rattle.disk_model.proofs.Closings.{none_closed, closing_goes_on, one_closed, all_moments, all_read, all_shut, none_counted, one_counted, all_counted}
use Rattle.disk_model.proofs.gate.close_gates.Goals as goal

pub loop-k-init : goal.loop-k-init
loop-k-init g c = search (rules, none_closed, none_counted)

pub returns-in_err-close_gate-clause-any_moment : goal.returns-in_err-close_gate-clause-any_moment
returns-in_err-close_gate-clause-any_moment g c =
    closing_goes_on c.args.at c.args.count c.loop-k.k _ _ _ _ c.loop-k.invariant.closed c.loop-k-test.true (omega (arith, c.from.ensures)) c.close_gate.ensures.any_moment

pub loop-k-preserved : goal.loop-k-preserved
loop-k-preserved g c = record {
  closed = one_closed c.args.at c.args.count c.loop-k.k _ _ _ _ c.loop-k.invariant.closed c.loop-k-test.true (omega (arith, c.from.ensures)) c.close_gate.ensures.any_moment
      c.in_ok-close_gate.ensures.reads c.in_ok-close_gate.ensures.shut;
  later = omega (arith, c.loop-k.invariant.later, c.close_gate.ensures.later);
  clock = omega (arith, c.loop-k.invariant.clock, c.close_gate.ensures.clock);
  calls = grind (arith, one_counted);
  faultless = c.in_ok-close_gate.ensures.cause.passed ∙ c.loop-k.invariant.faultless;
  handed = c.close_gate.ensures.handed ∙ c.loop-k.invariant.handed;
}

pub returns-clause-any_moment : goal.returns-clause-any_moment
returns-clause-any_moment g c = grind (arith, all_moments)

pub returns-clause-reads : goal.returns-clause-reads
returns-clause-reads g c = grind (arith, all_read)

pub returns-clause-shut : goal.returns-clause-shut
returns-clause-shut g c = grind (arith, all_shut)

pub returns-clause-calls : goal.returns-clause-calls
returns-clause-calls g c = grind (arith, all_counted)

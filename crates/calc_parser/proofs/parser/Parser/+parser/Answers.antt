-- Each form of the grammar from its parts.
use Rattle.std.proofs.Common.{arith}
use Rattle.std.proofs.lemmas.Result.{IfOk-weaker}
use Rattle.calc_parser.specs.declared.token.Token.TheVariants.{Measuring, Calculation, Absolute, Summing, Multiplying, Comparing}
use Rattle.calc_parser.proofs.Steps.{passed, spells_number, spells_group, spells_measure, spells_calculation, spells_absolute, spells_negated, spells_picked, spells_chosen, spells_compared, spells_plain, first_term, next_term, first_factor}
use Rattle.calc_parser.proofs.Steps.{next_factor, formula_ends, sum_ends}
use Rattle.calc_parser.proofs.parser.Parser.+parser.Goals as goal

pub chosen-returns-clause-parsed : goal.chosen-returns-clause-parsed
chosen-returns-clause-parsed t c = grind (arith, spells_chosen)

pub picked-returns-clause-parsed : goal.picked-returns-clause-parsed
picked-returns-clause-parsed t c = grind (arith, spells_picked)

pub factor-returns-in-Open-clause-parsed : goal.factor-returns-in-Open-clause-parsed
factor-returns-in-Open-clause-parsed t c = grind (arith, spells_group)

pub factor-returns-in-Number-clause-parsed : goal.factor-returns-in-Number-clause-parsed
factor-returns-in-Number-clause-parsed t c = grind (arith, spells_number, passed)

pub factor-returns-in_ok-tag-in-Measuring-clause-parsed :
    goal.factor-returns-in_ok-tag-in-Measuring-clause-parsed
factor-returns-in_ok-tag-in-Measuring-clause-parsed t c = spells_measure
    (passed _ _ (Measuring c.in-Measuring.measure) c.in-Measuring.ensures (λ h. cc)
    c.advance-in-Measuring.ensures)
    c.in_ok-tag-in-Measuring.ensures.parsed

pub factor-returns-in_ok-name-in-Calculation-clause-parsed :
    goal.factor-returns-in_ok-name-in-Calculation-clause-parsed
factor-returns-in_ok-name-in-Calculation-clause-parsed t c = spells_calculation
    (passed _ _ Calculation c.in-Calculation.ensures (λ h. cc) c.advance-in-Calculation.ensures)
    c.in_ok-name-in-Calculation.ensures.parsed

pub factor-returns-in_ok-inner-in-Absolute-clause-parsed :
    goal.factor-returns-in_ok-inner-in-Absolute-clause-parsed
factor-returns-in_ok-inner-in-Absolute-clause-parsed t c = IfOk-weaker c.absolute.result _ _
    (λ e same. spells_absolute (passed _ _ Absolute c.in-Absolute.ensures (λ h. cc)
    c.advance-in-Absolute.ensures)
    c.in_ok-inner-in-Absolute.ensures.parsed same)
    c.absolute.ensures.tree

pub signed-returns-in_ok-inner-in-Minus-clause-parsed : goal.signed-returns-in_ok-inner-in-Minus-clause-parsed
signed-returns-in_ok-inner-in-Minus-clause-parsed t c = grind (arith, spells_negated, passed)

pub formula-returns-in_ok-right-in-Comparing-clause-parsed :
    goal.formula-returns-in_ok-right-in-Comparing-clause-parsed
formula-returns-in_ok-right-in-Comparing-clause-parsed t c = IfOk-weaker c.compared.result _ _
    (λ e same. spells_compared c.in_ok-left.ensures.parsed
    (passed _ _ (Comparing c.in-Comparing.cmp) c.in-Comparing.ensures (λ h. cc) c.advance.ensures)
    c.in_ok-right-in-Comparing.ensures.parsed same)
    c.compared.ensures.tree

pub formula-returns-in_default : goal.formula-returns-in_default
formula-returns-in_default t c = grind (arith, spells_plain, formula_ends)

pub sum-loop-sign-init : goal.sum-loop-sign-init
sum-loop-sign-init t c = record {
  read = first_term c.in_ok-sum.ensures.parsed c.in_ok-sum.ensures.follows;
  ends = c.in_ok-sum.ensures.ends;
}

pub sum-loop-sign-preserved : goal.sum-loop-sign-preserved
sum-loop-sign-preserved t c = record {
  read = next_term c.loop-sign.invariant.read
      (passed _ _ (Summing c.in-Summing.sign) c.in-Summing.ensures (λ h. cc) c.advance.ensures)
      c.in_ok-term.ensures.parsed c.in_ok-term.ensures.follows (cc c.in_ok-sum-2.ensures.tree);
  ends = c.in_ok-term.ensures.ends;
}

pub sum-returns : goal.sum-returns
sum-returns t c = grind (arith, sum_ends)

pub term-loop-sign-init : goal.term-loop-sign-init
term-loop-sign-init t c = first_factor c.in_ok-term.ensures.parsed c.in_ok-term.ensures.follows

pub term-loop-sign-preserved : goal.term-loop-sign-preserved
term-loop-sign-preserved t c = next_factor c.loop-sign.invariant
    (passed _ _ (Multiplying c.in-Multiplying.sign) c.in-Multiplying.ensures (λ h. cc) c.advance.ensures)
    c.in_ok-factor.ensures.parsed c.in_ok-factor.ensures.follows (cc c.in_ok-term-2.ensures.tree)

use Rattle.std.proofs.Common.{◌+◌, ◌-◌, ◌<◌, ◌^◌, drop, length-take, take, refl, arith, ◌∙◌}
use Rattle.core.proofs.dec2flt.Eight.{eight_at, word_at}
use Rattle.point_text.proofs.DigitRun.{IsDigitRange, digit_range_is, one_word, spelt_lt}
use Rattle.trend_num.specs.{digits_value}
use Rattle.point_text.proofs.plain_line.amount.Goals as goal
use Rattle.point_text.proofs.plain_line.amount.Goals.{Then-count-lt8}

-- the digits that end in the first word
short_range : (c : Then-count-lt8) → IsDigitRange c.args.text.now c.args.from (c.args.from + c.digits_of_word-count.result.0) c.digits_of_word-count.result.1
short_range c =
    let bs = c.args.text.now in
    let at = c.args.from in
    let first = c.digits_of_word-count.ensures.read _ (eight_at bs at (λ k. (c.type_inv.text k).fits) (omega arith)) (c.word_at.ensures ∙ word_at bs at (omega arith)) in
    digit_range_is bs at (at + c.digits_of_word-count.result.0) _ _ (omega arith) (omega arith) (one_word (drop at bs) _ _ c.if-count-lt8.true first.0 first.1)

pub returns-then-count-lt8-clause-amount : goal.returns-then-count-lt8-clause-amount
returns-then-count-lt8-clause-amount c =
    let run = short_range c in
    record {
      some = omega (arith, c.if-count-eq0.false);
      few = run.within;
      within = omega arith;
      digits = run.digits;
      value = run.value;
      after = refl;
    }

pub returns-then-count-lt8-clause-in_range : goal.returns-then-count-lt8-clause-in_range
returns-then-count-lt8-clause-in_range c =
    let run = short_range c in
    let n = c.args.from + c.digits_of_word-count.result.0 - c.args.from in
    let ds = take n (drop c.args.from c.args.text.now) in
    let small : digits_value ds < 10 ^ 8 = spelt_lt ds 8 run.digits (omega (arith, length-take n (drop c.args.from c.args.text.now))) in
    omega (arith, run.value)

pub returns-clause-amount : goal.returns-clause-amount
returns-clause-amount c = grind arith

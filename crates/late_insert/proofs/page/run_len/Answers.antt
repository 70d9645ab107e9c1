use Rattle.std.proofs.Common.{◌≡◌, subst, take, arith}
use Rattle.trend_model.specs.{IsRising}
use Rattle.late_insert.proofs.Filling.{first_rises, next_rises}
use Rattle.late_insert.proofs.page.run_len.Goals as goal

pub loop-i-init : goal.loop-i-init
loop-i-init c = record {
  rises = first_rises c.args.recs.now;
  upto = omega (arith, c.requires.some, c.min-most.ensures);
}

pub loop-i-preserved : goal.loop-i-preserved
loop-i-preserved c = record {
  rises = next_rises c.args.recs.now c.loop-i.i _ (omega (arith, c.loop-i.auto.i))
      (omega (arith, c.loop-i-test.true, c.min-most.ensures)) c.loop-i.invariant.rises c.if-recs-i.false;
  upto = omega (arith, c.loop-i-test.true);
}

pub returns-then-recs-i-clause-rising : goal.returns-then-recs-i-clause-rising
returns-then-recs-i-clause-rising c = c.loop-i.invariant.rises

pub returns-clause-rising : goal.returns-clause-rising
returns-clause-rising c =
    let all : c.loop-i.i ≡ c.min-most.result = omega (arith, c.loop-i.invariant.upto, c.loop-i-test.false) in
    subst (λ n. IsRising (take n c.args.recs.now)) all c.loop-i.invariant.rises

use Rattle.trend_num.proofs.Numbers.{digits_value_step}
use Rattle.trend_num.proofs.digits.digits_value.Goals as goal

pub loop-b-preserved : goal.loop-b-preserved
loop-b-preserved c =
    rw c.from.ensures (digits_value_step c.args.digits.now c.loop-b.b-index c.loop-b.n c.requires.digits c.loop-b-test.true c.loop-b.invariant)

use Rattle.std.proofs.Common.{arith}
use Rattle.group_tests.proofs.Checked.{checked_all, checked_more}
use Rattle.group_tests.proofs.spelled_frames.are_changes.Goals as goal

pub loop-i-preserved : goal.loop-i-preserved
loop-i-preserved c =
    let yes_it = c.if-not-follows.false in
    checked_more c.args.windows c.args.changes.now c.loop-i.i (c.follows.ensures.first yes_it) (c.follows.ensures.rising yes_it)
    (c.follows.ensures.gapless yes_it) c.loop-i.invariant

pub returns : goal.returns
returns c = λ _. checked_all c.args.windows c.args.changes.now c.loop-i.i (omega (arith, c.loop-i-test.false)) c.loop-i.invariant

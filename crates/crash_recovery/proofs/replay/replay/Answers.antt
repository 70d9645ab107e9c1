use Rattle.std.proofs.{Common.arith, lemmas.List.get_or_default}
use Rattle.crash_recovery.proofs.Takes.{taken_to_more, few_enough}
use Rattle.crash_recovery.proofs.replay.replay.Goals as goal

pub loop-n-preserved : goal.loop-n-preserved
loop-n-preserved g c =
    let took = c.in-Ok.ensures in
    taken_to_more c.args.points.now c.loop-n.n _ c.args.core.now c.loop-n.core c.take.new.self c.loop-n.invariant
    (omega arith) (get_or_default c.args.points.now c.loop-n.n _ _ (omega arith)) took.after took.one.step took.one.counted
    (few_enough _ took.one.full.1) (omega (arith, took.one.room, took.one.added, took.one.few))

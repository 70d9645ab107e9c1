use Rattle.std.proofs.Common.{arith}
use Rattle.weighted_total.proofs.Measuring.{count_is}
use Rattle.weighted_total.proofs.measure.counted.Goals as goal

pub overflow_sub-result : goal.overflow_sub-result
overflow_sub-result c =
    (count_is c.args.content.now.records c.args.from c.args.to c.below-2.result c.below.result
    c.len-len.ensures.rising c.requires
    c.below-2.ensures.value c.below.ensures.value).0

pub returns : goal.returns
returns c = grind (arith, count_is)

use Rattle.std.proofs.Common.{arith}
use Rattle.trend_model.specs.{points_of}
use Rattle.trend_model.proofs.ReadLaw.{points_rise}
use Rattle.interp_read.specs.{points_closed_by}
use Rattle.interp_read.proofs.ClosedPoints.{closed, closed_in_range, closed_rise}
use Rattle.interp_read.proofs.Readable.{readable}
use Rattle.weighted_total.proofs.shape.value_at.Goals as goal

pub value_of-requires : goal.value_of-requires
value_of-requires c =
    let l = c.args.content.now.records in
    let cs = points_closed_by c.args.held l in
    let closing = closed c.args.held l c.len-len.ensures.rising c.requires.last in
    let rises =
    closed_rise cs (points_of l) closing.more
    (points_rise l c.len-len.ensures.rising) closing.whole closing.later in
    let range =
    closed_in_range c.args.held cs (points_of l) closing c.requires.range c.len-len.ensures.range in
    rw (c.reading_of.ensures cs c.requires.near) (readable c.args.step cs c.args.t rises range)

pub reading_of-requires-clause-near : goal.reading_of-requires-clause-near
reading_of-requires-clause-near c = (points_closed_by c.args.held c.args.content.now.records, c.requires.near)

pub returns : goal.returns
returns c = grind arith

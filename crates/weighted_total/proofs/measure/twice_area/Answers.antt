use Rattle.std.proofs.Common.{◌≡◌, arith}
use Rattle.std.proofs.lemmas.Int.{ints}
use Rattle.trend_model.specs.{points_of, area}
use Rattle.weighted_total.specs.{outline}
use Rattle.weighted_total.proofs.Measuring.{AreSums, end_in_range, sums_of}
use Rattle.interp_read.proofs.Readable.{num_back}
use Rattle.weighted_total.proofs.Walking.{rises_front}
use Rattle.weighted_total.proofs.measure.twice_area.Goals as goal
use Rattle.weighted_total.proofs.measure.twice_area.Goals.{After-piece, After-sum}

pub area_inside-inside-requires-clause-rises : goal.area_inside-inside-requires-clause-rises
area_inside-inside-requires-clause-rises c = grind (arith, rises_front)

pub piece-requires-clause-second : goal.piece-requires-clause-second
piece-requires-clause-second c = grind (arith, end_in_range)

-- the area inside and the piece after it are those of the whole
sums : (c : After-piece)
    → AreSums c.area_inside-inside.result.twice c.piece.result
    (area c.args.step (outline (points_of c.args.content.now.records) c.args.ends))
sums c =
    sums_of c.args.step (points_of c.args.content.now.records) c.args.ends c.area_inside-inside.result.twice
    c.area_inside-inside.result.last c.piece.result c.requires.ends c.area_inside-inside.ensures.area
    c.area_inside-inside.ensures.last c.area_inside-inside.ensures.range c.piece.ensures

-- and so is their sum
whole : (c : After-sum) → AreSums c.area_inside-inside.result.twice c.piece.result
    (area c.args.step (outline (points_of c.args.content.now.records) c.args.ends))
    → c.sum.result ≡ area c.args.step (outline (points_of c.args.content.now.records) c.args.ends)
whole c are = grind (arith, ints)

pub sum-requires-clause-first : goal.sum-requires-clause-first
sum-requires-clause-first c = grind (arith, sums, num_back)

pub sum-requires-clause-second : goal.sum-requires-clause-second
sum-requires-clause-second c =
    let sums = sums (goal.at.sum-requires-clause-second c).After-piece in
    rw (num_back c.piece.result (omega (arith, sums.small_seam))) sums.small_seam

pub returns-clause-value : goal.returns-clause-value
returns-clause-value c = grind (arith, sums, whole, num_back)

pub returns-clause-small : goal.returns-clause-small
returns-clause-small c = grind (arith, sums, whole, num_back)

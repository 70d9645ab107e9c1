use Rattle.std.proofs.Common.{arith}
use Rattle.std.proofs.lemmas.Int.{ints}
use Rattle.weighted_total.proofs.Sums.{piece_bounded}
use Rattle.weighted_total.proofs.inside.joined.Goals as goal

pub sum-requires-2-clause-first : goal.sum-requires-2-clause-first
sum-requires-2-clause-first c =
    let small =
    piece_bounded c.args.step c.args.area.last c.args.part.first c.requires.last c.requires.first
    c.requires.order in
    omega (arith, ints, small, c.sum.ensures, c.piece.ensures, c.requires.small)

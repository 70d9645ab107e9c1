use Rattle.std.proofs.Common.{◌≡◌, ◌+ℤ◌, ◌-ℤ◌, arith}
use Rattle.std.proofs.lemmas.Int.{ints, to_z-of_z}
use Rattle.trend_num.proofs.slope.raised_product.Goals as goal

pub returns : goal.returns
returns c =
    let risen : c.rise.result ≡ (c.args.x.v +ℤ c.args.raise) -ℤ c.args.a.v = omega (arith, ints) in
    grind (arith, to_z-of_z)

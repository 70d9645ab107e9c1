use Rattle.std.proofs.Common.{◌≡◌, arith, rules}
use mir.Syntax.{w128}
use mir.Val.{SFits}
use Rattle.std.proofs.lemmas.Int.{ints, to_z-of_z}
use Rattle.sheet_law.specs.{floor_div}
use Rattle.calc_eval.proofs.Quotient.{computed_rem}
use Rattle.calc_eval.proofs.arithmetic.floor_rem.Goals as goal

pub returns : goal.returns
returns c =
    let a_is : c.from.result ≡ c.args.a = omega (arith, ints) in
    let b_is : c.from-2.result ≡ c.args.b = omega (arith, ints) in
    let q_is : c.floor_div.result ≡ floor_div c.args.a c.args.b = grind (arith, to_z-of_z) in
    let fits : SFits w128 c.floor_div.result = search rules in
    rw (a_is, b_is, q_is) (computed_rem c.args.a c.args.b c.requires c.ranges.a c.ranges.b (rw q_is at fits))

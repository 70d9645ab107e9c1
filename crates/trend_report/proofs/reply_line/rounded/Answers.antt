use Rattle.std.proofs.Common.{◌≡◌, ◌<◌, pos, ◌*ℤ◌, ◌+ℤ◌, ◌<ℤ◌, ◌≤ℤ◌, ap, ap₂, ◌∙◌, rules, arith}
use Rattle.std.proofs.lemmas.Int.{ints}
use Rattle.std.specs.Int.{int_div_euclid, int_rem_euclid}
use mir.Syntax.{w128}
use mir.Val.{of_z, to_z}
use Rattle.trend_report.proofs.Rounding.{lower, rounded_told, upper}
use Rattle.trend_report.proofs.reply_line.rounded.Goals as goal
use Rattle.trend_report.proofs.reply_line.rounded.Goals.{After-rem_euclid-rest}

-- the quotient and the rest are those of the numbers that were given, and stay as they are in their type, as the denominator does
divided : (c : After-rem_euclid-rest)
    → (0 < c.args.f.den)
    × (c.div_euclid-whole.result ≡ int_div_euclid c.args.f.num (pos c.args.f.den))
    × (c.rem_euclid-rest.result ≡ int_rem_euclid c.args.f.num (pos c.args.f.den))
    × (to_z w128 (of_z w128 c.div_euclid-whole.result) ≡ c.div_euclid-whole.result)
    × (to_z w128 (of_z w128 c.rem_euclid-rest.result) ≡ c.rem_euclid-rest.result)
    × (to_z w128 (of_z w128 c.from-den.result) ≡ c.from-den.result)
divided c =
    let back : to_z w128 (of_z w128 c.args.f.num) ≡ c.args.f.num = search rules in
    let whole_den : to_z w128 (of_z w128 c.from-den.result) ≡ c.from-den.result = search rules in
    let den_back : to_z w128 (of_z w128 c.from-den.result) ≡ pos c.args.f.den = whole_den ∙ c.from-den.ensures in (
      search rules,
      c.div_euclid-whole.ensures ∙ ap₂ int_div_euclid back den_back,
      c.rem_euclid-rest.ensures.value ∙ ap₂ int_rem_euclid back den_back,
      search rules,
      search rules,
      whole_den,
    )

pub returns-then-rest-den : goal.returns-then-rest-den
returns-then-rest-den c =
    let (some, whole, rest, whole_back, rest_back, den_back) = divided (goal.at.returns-then-rest-den c).After-rem_euclid-rest in
    let less : (pos 2 *ℤ c.rem_euclid-rest.result) <ℤ pos c.args.f.den = omega (arith, ints) in
    whole_back ∙ lower c.args.f.num _ _ c.args.f.den some whole rest less ∙ rounded_told c.args.f.num c.args.f.den some

pub returns-else-rest-den : goal.returns-else-rest-den
returns-else-rest-den c =
    let (some, whole, rest, whole_back, rest_back, den_back) = divided (goal.at.returns-else-rest-den c).After-rem_euclid-rest in
    let more : pos c.args.f.den ≤ℤ (pos 2 *ℤ c.rem_euclid-rest.result) = omega (arith, ints) in
    let one_back : to_z w128 (of_z w128 (to_z w128 (of_z w128 c.div_euclid-whole.result) +ℤ pos 1))
    ≡ to_z w128 (of_z w128 c.div_euclid-whole.result) +ℤ pos 1 = search rules in
    one_back ∙ ap (λ x. x +ℤ pos 1) whole_back
    ∙ upper c.args.f.num _ _ c.args.f.den some whole rest more ∙ rounded_told c.args.f.num c.args.f.den some

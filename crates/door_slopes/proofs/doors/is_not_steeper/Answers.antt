use Rattle.std.proofs.Common.{◌≡◌, ◌∙◌, rules}
use Rattle.trend_num.specs.{compare_slopes}
use Rattle.door_slopes.proofs.Slopes.{test_of_cmp}
use Rattle.door_slopes.proofs.doors.is_not_steeper.Goals as goal

pub returns-clause-value : goal.returns-clause-value
returns-clause-value g c =
    let compared : c.slope_cmp.result ≡ compare_slopes c.args.a c.args.x c.args.raise c.args.y c.args.lift = search rules in
    c.is_le.ensures ∙ test_of_cmp c.slope_cmp.result c.args.a c.args.x c.args.y c.args.raise c.args.lift compared

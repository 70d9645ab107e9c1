use Rattle.std.proofs.Common.{◌≡◌, sym, subst}
use Rattle.std.specs.Bool.{Decides}
use Rattle.trend_num.proofs.Sameness.{name_same}
use Rattle.trend_num.proofs.equality.same_name.Goals as goal

pub returns : goal.returns
returns c = subst (λ b. Decides b (c.args.a.now ≡ c.args.b.now)) (sym c.eq.ensures) (name_same c.args.a.now c.args.b.now)

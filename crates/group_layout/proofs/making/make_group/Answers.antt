use Rattle.std.proofs.Common.{arith}
use Rattle.group_layout.proofs.Beginnings.{saves_nothing}
use Rattle.group_layout.proofs.making.make_group.Goals as goal

pub returns-clause-any_moment : goal.returns-clause-any_moment
returns-clause-any_moment g c = grind (arith, saves_nothing)

use Rattle.std.proofs.Common.{◌∙◌}
use Rattle.calc_check.proofs.Mentions.{any_named}
use Rattle.calc_check.proofs.naming.is_calc.Goals as goal

pub returns : goal.returns
returns c = c.is_defined.ensures ∙ any_named c.args.name.now c.args.calcs.now

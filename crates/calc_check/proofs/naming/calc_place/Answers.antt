use Rattle.std.proofs.Common.{◌∙◌}
use Rattle.calc_check.proofs.Mentions.{place_named}
use Rattle.calc_check.proofs.naming.calc_place.Goals as goal

pub returns : goal.returns
returns c = c.def_place.ensures ∙ place_named c.args.name.now c.args.calcs.now

use Rattle.trend_model.proofs.RulesLaw.{after_parts}
use Rattle.trend_model.proofs.step_law.after_keeps_parts.Goals as goal

pub returns : goal.returns
returns c = after_parts

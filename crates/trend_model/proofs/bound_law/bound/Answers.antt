use Rattle.trend_model.proofs.BoundLaw.{bounded}
use Rattle.trend_model.proofs.bound_law.bound.Goals as goal

pub returns : goal.returns
returns c = bounded

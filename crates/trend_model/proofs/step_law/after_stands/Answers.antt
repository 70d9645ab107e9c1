use Rattle.trend_model.proofs.StateLaw.{nothing_stands, stands_after, stands_followed}
use Rattle.trend_model.proofs.step_law.after_stands.Goals as goal

pub returns-clause-one : goal.returns-clause-one
returns-clause-one c = stands_after

pub returns-clause-all : goal.returns-clause-all
returns-clause-all c = stands_followed

pub returns-clause-start : goal.returns-clause-start
returns-clause-start c = nothing_stands

use Rattle.trend_model.proofs.HistoryLaw.{hinge_is_last, kept_rise}
use Rattle.trend_model.proofs.order_law.kept_points_rise.Goals as goal

pub returns-clause-rise : goal.returns-clause-rise
returns-clause-rise c = kept_rise

pub returns-clause-last : goal.returns-clause-last
returns-clause-last c = hinge_is_last

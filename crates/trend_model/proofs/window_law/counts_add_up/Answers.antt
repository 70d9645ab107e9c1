use Rattle.trend_model.proofs.WindowLaw.{count_adds}
use Rattle.trend_model.proofs.window_law.counts_add_up.Goals as goal

pub returns : goal.returns
returns c = count_adds

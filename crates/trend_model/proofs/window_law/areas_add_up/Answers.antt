use Rattle.trend_model.proofs.WindowLaw.{area_adds}
use Rattle.trend_model.proofs.window_law.areas_add_up.Goals as goal

pub returns : goal.returns
returns c = area_adds

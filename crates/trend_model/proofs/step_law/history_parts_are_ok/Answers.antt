use Rattle.trend_model.proofs.HistoryLaw.{stored_parts}
use Rattle.trend_model.proofs.step_law.history_parts_are_ok.Goals as goal

pub returns : goal.returns
returns c = stored_parts

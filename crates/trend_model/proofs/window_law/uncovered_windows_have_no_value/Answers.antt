use Rattle.trend_model.proofs.Covering.{window_value-none}
use Rattle.trend_model.proofs.window_law.uncovered_windows_have_no_value.Goals as goal

pub returns : goal.returns
returns c = window_value-none

use Rattle.sheet_law.proofs.Window.{window_decides}
use Rattle.calc_eval.proofs.law.one_window_decides.Goals as goal

pub returns : goal.returns
returns c = window_decides

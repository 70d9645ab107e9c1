use Rattle.sheet_law.proofs.Window.{printed_value}
use Rattle.calc_eval.proofs.law.printing_keeps_values.Goals as goal

pub returns : goal.returns
returns c = printed_value

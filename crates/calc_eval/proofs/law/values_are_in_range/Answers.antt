use Rattle.calc_eval.proofs.Range.{values_range}
use Rattle.calc_eval.proofs.law.values_are_in_range.Goals as goal

pub returns : goal.returns
returns c = values_range

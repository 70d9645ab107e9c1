use Rattle.calc_eval.proofs.Quotient.{floor_division}
use Rattle.calc_eval.proofs.law.division.Goals as goal

pub returns : goal.returns
returns c = floor_division

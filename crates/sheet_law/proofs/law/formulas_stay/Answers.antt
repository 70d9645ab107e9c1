use Rattle.sheet_law.proofs.Formulas.{values_stay}
use Rattle.sheet_law.proofs.law.formulas_stay.Goals as goal

pub returns : goal.returns
returns c = values_stay

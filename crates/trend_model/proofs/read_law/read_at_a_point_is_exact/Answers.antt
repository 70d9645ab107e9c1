use Rattle.trend_model.proofs.ReadLaw.{read_at_point}
use Rattle.trend_model.proofs.read_law.read_at_a_point_is_exact.Goals as goal

pub returns : goal.returns
returns c = read_at_point

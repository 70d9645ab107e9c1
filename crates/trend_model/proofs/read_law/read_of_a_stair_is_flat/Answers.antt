use Rattle.std.proofs.Common.{true}
use Rattle.trend_model.proofs.ReadLaw.{read_between}
use Rattle.trend_model.proofs.read_law.read_of_a_stair_is_flat.Goals as goal

pub returns : goal.returns
returns c = read_between true

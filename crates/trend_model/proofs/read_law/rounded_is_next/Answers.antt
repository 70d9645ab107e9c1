use Rattle.trend_model.proofs.Rounding.{rounded_next, rounded_only}
use Rattle.trend_model.proofs.read_law.rounded_is_next.Goals as goal

pub returns-clause-next : goal.returns-clause-next
returns-clause-next c = rounded_next

pub returns-clause-only : goal.returns-clause-only
returns-clause-only c = rounded_only

use Rattle.trend_model.proofs.PlainLaws.{on_line}
use Rattle.trend_model.proofs.order_law.no_deviation_is_exact.Goals as goal

pub returns : goal.returns
returns c = on_line

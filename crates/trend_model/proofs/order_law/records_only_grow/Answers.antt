use Rattle.trend_model.proofs.HistoryLaw.{prefix_records}
use Rattle.trend_model.proofs.order_law.records_only_grow.Goals as goal

pub returns : goal.returns
returns c = prefix_records

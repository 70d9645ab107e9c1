use Rattle.trend_model.proofs.PlainLaws.{sends_all}
use Rattle.trend_model.proofs.order_law.no_wait_sends_all.Goals as goal

pub returns : goal.returns
returns c = sends_all

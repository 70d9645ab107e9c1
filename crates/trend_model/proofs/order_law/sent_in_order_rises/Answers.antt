use Rattle.trend_model.proofs.Order.{sent_rises}
use Rattle.trend_model.proofs.order_law.sent_in_order_rises.Goals as goal

pub returns : goal.returns
returns c = sent_rises

use Rattle.std.proofs.Common.{sym, ◌∙◌}
use Rattle.trend_model.proofs.Sent.{last_in_order_is}
use Rattle.trend_model.proofs.Walks.{held_is_prior}
use Rattle.trend_model.proofs.order_law.held_is_sent.Goals as goal

pub returns : goal.returns
returns c = λ o h. held_is_prior o h ∙ sym (last_in_order_is o h)

use Rattle.trend_num.specs.{InRange}
use Rattle.trend_model.proofs.Held.{held_last, history_held_last}
use Rattle.trend_model.proofs.order_law.held_is_last.Goals as goal

pub returns-clause-of_history : goal.returns-clause-of_history
returns-clause-of_history c = history_held_last

pub returns-clause-of_parts : goal.returns-clause-of_parts
returns-clause-of_parts c = λ u step rs s parts. held_last InRange u step rs s parts.ruled

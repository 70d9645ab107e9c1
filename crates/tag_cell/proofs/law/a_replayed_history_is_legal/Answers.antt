use Rattle.tag_cell.proofs.Laws.{legal}
use Rattle.tag_cell.proofs.law.a_replayed_history_is_legal.Goals as goal

pub returns : goal.returns
returns c = legal

use Rattle.std.proofs.Common.{map}
use Rattle.trend_model.specs.{Raw}
use Rattle.trend_model.specs.State.{followed}
use Rattle.trend_model.proofs.BoundLaw.{bounded}
use Rattle.tag_cell.specs.{taken}
use Rattle.tag_cell.proofs.Laws.{legal}
use Rattle.tag_cell.proofs.law.a_replayed_history_is_bounded.Goals as goal

pub returns : goal.returns
returns c = λ org h def o tape s acked same stands replayed. (
  (legal org h def o tape s acked same stands replayed).stands,
  bounded org (followed h (map Raw (taken tape))),
)

use Rattle.event_queue.proofs.Found.{filled_or_overtaken}
use Rattle.event_queue.proofs.law.a_lane_is_filled_or_overtaken.Goals as goal

pub returns : goal.returns
returns c = λ slots taken bytes long lane. filled_or_overtaken slots taken bytes long lane

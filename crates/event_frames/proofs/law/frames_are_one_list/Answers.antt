use Rattle.event_frames.specs.{IsFrame}
use Rattle.event_frames.proofs.Unique.{list_unique}
use Rattle.event_frames.proofs.law.frames_are_one_list.Goals as goal

pub returns : goal.returns
returns c = λ truths least fs gs one two. list_unique (IsFrame truths least) fs gs one two

use Rattle.event_frames.proofs.Unique.{edits_unique}
use Rattle.event_frames.proofs.law.edits_are_one_list.Goals as goal

pub returns : goal.returns
returns c = edits_unique

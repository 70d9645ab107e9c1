use Rattle.std.proofs.Common.{◌≡◌, [], take}
use Rattle.disk_model.specs.{content, picked, log_first, calls_after}
use Rattle.disk_model.proofs.memory_log.CallLog.picked.Given as goal

abbrev pub invariant-loop-note : goal.invariant-loop-note
invariant-loop-note l = record {
  held : l.content.items ≡ content (log_first l.self) (calls_after [] (take l.note-index l.self.notes.items));
  image : l.image.items ≡ picked l.pick (log_first l.self) (calls_after [] (take l.note-index l.self.notes.items));
}

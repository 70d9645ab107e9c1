use Rattle.std.proofs.Common.{string_bytes, take}
use Rattle.plant_more.specs.{AreLines, tag_lines}
use Rattle.plant_more.proofs.shift_line.lines_of.Given as goal

abbrev pub invariant-loop-window : goal.invariant-loop-window
invariant-loop-window l = AreLines (tag_lines l.measure l.tags) (take l.window-index l.windows) (string_bytes l.text)

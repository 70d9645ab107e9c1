use Rattle.std.proofs.Common.{take}
use Rattle.plant_more.specs.{AreShiftTags}
use Rattle.plant_more.proofs.shift_contents.shift_tags.Given as goal

abbrev pub invariant-loop-place : goal.invariant-loop-place
invariant-loop-place l = AreShiftTags l.defs l.cores (take l.place-index l.places) l.tags.items

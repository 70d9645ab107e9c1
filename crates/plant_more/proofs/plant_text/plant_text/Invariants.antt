use Rattle.std.proofs.Common.{◌≡◌, take}
use Rattle.plant_more.specs.{plant_text}
use Rattle.plant_more.proofs.plant_text.plant_text.Given as goal

abbrev pub invariant-loop-place : goal.invariant-loop-place
invariant-loop-place l = l.text.items ≡ plant_text (take l.place l.tags)

use Rattle.std.proofs.Common.{◌≡◌}
use Rattle.run_command.specs.{drill_tags}
use Rattle.run_command.proofs.drill_plant.drill_tags.Given as goal

abbrev pub invariant-loop-place : goal.invariant-loop-place
invariant-loop-place l = l.defs.items ≡ drill_tags l.place

use Rattle.std.proofs.Common.{◌≡◌, map, take}
use Rattle.run_command.specs.Sessions.{planned_turn, turn_of}
use Rattle.run_command.proofs.work.refreshers_of.Given as goal

abbrev pub invariant-loop-refresher : goal.invariant-loop-refresher
invariant-loop-refresher l = map turn_of l.list.items ≡ map planned_turn (take l.refresher-index l.refreshers)

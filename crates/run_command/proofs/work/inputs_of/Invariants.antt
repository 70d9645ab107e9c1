use Rattle.std.proofs.Common.{◌≡◌, map, take}
use Rattle.calc_refresh.specs.{lists_of}
use Rattle.run_command.proofs.work.inputs_of.Given as goal

abbrev pub invariant-loop-group : goal.invariant-loop-group
invariant-loop-group l = lists_of l.list.items ≡ map (λ d. d.inputs.items) (take l.group-index l.groups)

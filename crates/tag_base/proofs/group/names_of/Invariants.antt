use Rattle.std.proofs.Common.{◌≡◌, map, take}
use Rattle.tag_base.proofs.group.names_of.Given as goal

abbrev pub invariant-loop-input : goal.invariant-loop-input
invariant-loop-input l = l.names.items ≡ map (λ i. i.name) (take l.input-index l.inputs)

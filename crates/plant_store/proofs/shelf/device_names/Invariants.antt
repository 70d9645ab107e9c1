use Rattle.std.proofs.Common.{◌≡◌, ◌++◌, map, take}
use Rattle.plant_store.specs.{device_names_of, texts}
use Rattle.plant_store.specs.Groups.{device_name}
use Rattle.plant_store.proofs.shelf.device_names.Given as goal

abbrev pub invariant-loop-group : goal.invariant-loop-group
invariant-loop-group l =
    texts l.names.items ≡ device_names_of l.base.tags.items ++ map (λ g. device_name g.name) (take l.group-index l.base.groups.items)

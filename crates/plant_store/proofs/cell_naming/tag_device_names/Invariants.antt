use Rattle.std.proofs.Common.{◌≡◌, take}
use Rattle.plant_store.specs.{device_names_of, texts}
use Rattle.plant_store.proofs.cell_naming.tag_device_names.Given as goal

abbrev pub invariant-loop-def : goal.invariant-loop-def
invariant-loop-def l = texts l.names.items ≡ device_names_of (take l.def-index l.tags)

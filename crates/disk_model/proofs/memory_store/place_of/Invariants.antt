use Rattle.std.proofs.Common.{◌≡◌, take, None}
use Rattle.disk_model.specs.{device_of, named}
use Rattle.disk_model.proofs.memory_store.place_of.Given as goal

abbrev pub invariant-loop-place : goal.invariant-loop-place
invariant-loop-place l = device_of (named (take l.place l.devices)) l.name ≡ None

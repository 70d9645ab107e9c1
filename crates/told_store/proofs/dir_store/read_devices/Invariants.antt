use Rattle.told_store.specs.Places.{AllFresh}
use Rattle.told_store.proofs.dir_store.read_devices.Given as goal

abbrev pub invariant-loop-name : goal.invariant-loop-name
invariant-loop-name g l = AllFresh l.places

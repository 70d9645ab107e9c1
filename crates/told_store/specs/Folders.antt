-- How a proof sees a folder of devices.
use Rattle.std.specs.Prelude.{ℕ, List}
use Rattle.disk_model.specs.{Trace}
use Rattle.told_store.specs.Places.{told_in}
use Rattle.told_store.specs.declared.dir_store.DirStore.{DirStore}

-- the trace of the device of a name
abbrev pub told_at : {R : Type 0} → DirStore R → List ℕ → Trace
told_at store name = told_in store.places name

-- how many calls of a folder, and of the devices given back, have failed
abbrev pub folder_faults : {R : Type 0} → DirStore R → ℕ
folder_faults store = store.faults

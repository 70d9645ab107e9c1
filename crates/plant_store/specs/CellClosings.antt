-- Giving back the devices of cells.
use Rattle.std.specs.Prelude.{◌≡◌, ◌≢◌, ◌⊎◌, ℕ, ◌-◌, ◌^◌, ◌<◌, ◌≤◌, true, false, List, All, Option, Some, IfSome}
use Rattle.std.specs.List.{AllZip}
use Rattle.disk_model.specs.{Rose, Trace, Device}
use Rattle.tag_cell.specs.{TagHistory, BeganWell, IsOpenedWell, ToldCell, IsCellHistory, device_name}
use Rattle.branded_disk.specs.{Past}

-- This is the history of a cell, on this device. If the cell's journal has failed, the device has counted one fault
-- since the opening. Otherwise it has counted none. It was handed out under the name of the tag's device, and began well.
pub record IsHistoryOfCell {D : Type 0} (dev : Device) (c : ToldCell D) (h : TagHistory) : Type 0 where
  pub def_is : h.def ≡ c.def
  pub opening_is : h.opening ≡ c.opening
  pub tape_is : h.tape.items ≡ c.tape
  pub records_are : h.recs.items ≡ c.state.records
  pub summary_is : h.summary ≡ c.state.summary
  pub acked_is : h.acked ≡ c.journal.acked
  pub history : IsCellHistory h dev
  pub rose : c.journal.failed ≡ true → Rose c.opening.faults dev.faults
  pub faultless : c.journal.failed ≡ false → dev.faults ≡ c.opening.faults
  pub named : dev.handed.name ≡ Some (device_name c.def.name)
  pub begun : BeganWell c.def c.opening dev.handed dev.trace

-- there is one history for each of these cells, at the same place, on the cell's device
abbrev pub AreHistoriesOf : {D : Type 0} → (D → Device) → List (ToldCell D) → List TagHistory → Type 0
AreHistoriesOf {D} device cells histories = AllZip (λ (c : ToldCell D) h. IsHistoryOfCell (device c.journal.dev) c h) cells histories

-- A history is that of a tag's device. If this is the name of the device of the history's tag, then the store has the device
-- under it; and from what the store had there when the command began, if that is told, the tag was opened well.
pub record IsHistoryAt (name : List ℕ) (start : Option Trace) (now : Trace) (h : TagHistory) : Type 0 where
  pub dev : Device
  pub is : IsCellHistory h dev
  pub back : name ≡ device_name h.def.name → now ≡ dev.trace
  pub begun : name ≡ device_name h.def.name → IfSome start (λ t. IsOpenedWell h.def h.opening t now)

-- each history is that of the device that the store has under the name at its place
abbrev pub AreHistoriesAt : Past → (List ℕ → Trace) → List (List ℕ) → List TagHistory → Type 0
AreHistoriesAt before traces names histories = AllZip (λ name h. IsHistoryAt name (before name) (traces name) h) names histories

-- the store has the device of a cell under this name, if it is the name of the device of the cell's tag
abbrev pub IsBackAt : {D : Type 0} → (D → Device) → (List ℕ → Trace) → List ℕ → ToldCell D → Type 0
IsBackAt device new name c = name ≡ device_name c.def.name → new name ≡ (device c.journal.dev).trace

-- the store has the device of each cell under the name at its place, and any other device is unchanged
pub record AreGivenBack {D : Type 0} (device : D → Device) (names : List (List ℕ)) (cells : List (ToldCell D))
    (old new : List ℕ → Trace) : Type 0 where
  pub given : AllZip (λ name (c : ToldCell D). IsBackAt device new name c) names cells
  pub others : (n : List ℕ) → All (λ name. n ≢ name) names → new n ≡ old n

-- a count has risen, or is the largest value of its type
abbrev pub HasRisen : ℕ → ℕ → Type 0
HasRisen before now = (before < now) ⊎ (now ≡ 2 ^ 64 - 1)

-- The store's fault count before the devices of these cells are given back, and after it. It never falls. It has risen,
-- or is the largest value of its type, if the journal of a cell has failed. It is unchanged if no device of a cell has
-- counted a fault.
pub record CountsCells {D : Type 0} (device : D → Device) (cells : List (ToldCell D)) (before now : ℕ) : Type 0 where
  pub later : before ≤ now
  pub risen : All (λ (c : ToldCell D). c.journal.failed ≡ true → HasRisen before now) cells
  pub faultless : All (λ (c : ToldCell D). (device c.journal.dev).faults ≡ 0) cells → now ≡ before

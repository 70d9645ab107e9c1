-- The tags of a base, opened as cells over their devices.
use Rattle.std.specs.Prelude.{◌≡◌, ℕ, false, List, [], length}
use Rattle.std.specs.List.{AllZip, sum_by}
use Rattle.trend_num.specs.{TagDef}
use Rattle.tag_core.specs.Core.{Core}
use Rattle.disk_model.specs.{Shows, Trace, moment, Device}
use Rattle.crash_recovery.specs.{HasSlots, LeavesFree, OpensAt, StaysSame}
use Rattle.tag_cell.specs.{opened, ToldCell}
use Rattle.plant_store.specs.Tags.{lane_slots, tag_trace_of, IsOpened, IsLeft}

-- the core that a cell was opened as; its room for records does not matter here and is set to 0
abbrev pub core_of : {D : Type 0} → ToldCell D → Core
core_of c = record { state = opened c.opening; step = c.def.step; spare = 0 }

-- The cell is that of this tag. It was opened as what the tag's device recovered, the device keeps that, and nothing
-- has happened to the cell since. `old` is the device's trace before, and `dev` is the device now.
pub record IsCellOpened {D : Type 0} (def : TagDef) (old : Trace) (dev : Device) (c : ToldCell D) : Type 0 where
  pub def_is : c.def ≡ def
  pub found : IsOpened def old (core_of c)
  pub left : IsLeft def old dev.trace (core_of c)
  pub same : StaysSame def old dev.trace
  pub slots : Shows old (HasSlots lane_slots c.journal.slots)
  pub free : Shows old (LeavesFree def c.journal.slots c.journal.free)
  pub state_is : c.state ≡ opened c.opening
  pub tape_is : c.tape ≡ []
  pub acked_is : c.journal.acked ≡ c.opening.summary.taken
  pub usable : c.journal.failed ≡ false
  pub moment_is : c.opening.moment ≡ moment dev.trace
  pub opened_at : OpensAt def old c.opening.moment
  pub opened_faultless : c.opening.faults ≡ 0
  pub faultless : dev.faults ≡ 0

-- There is one cell for each of these tags, at the same place. `traces` has the devices' traces before, by name.
abbrev pub AreCellsOpened : {D : Type 0} → (D → Device) → List TagDef → (List ℕ → Trace)
    → List (ToldCell D) → Type 0
AreCellsOpened {D} device tags traces cells = AllZip (λ def (c : ToldCell D). IsCellOpened def (tag_trace_of traces def)
    (device c.journal.dev) c) tags cells

-- how many records the cells were opened with, all together
abbrev pub records_opened : {D : Type 0} → List (ToldCell D) → ℕ
records_opened {D} cells = sum_by (λ (c : ToldCell D). length c.opening.recs.items) cells

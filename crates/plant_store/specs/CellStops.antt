-- Tags that are opened up to a refusal, while the devices of the opened ones are still out.
use Rattle.std.specs.Prelude.{ℕ, ◌≡◌, ◌^◌, ◌<◌, List, length, take, Err}
use Rattle.std.specs.List.{AllZip}
use Rattle.trend_num.specs.{TagDef}
use Rattle.disk_model.specs.{Trace, Device}
use Rattle.plant_status.specs.declared.status.Status.{Status}
use Rattle.tag_cell.specs.{ToldCell}
use Rattle.plant_store.specs.Tags.{tag_trace_of, AreOtherTagsSame, AllStaySame}
use Rattle.plant_store.specs.TagRefusals.{IsRefusal, CountsStore}

-- for each of the first tags, as many as there are cells, the trace under its name is that of the cell's device at its
-- place
abbrev pub AreTold : {D : Type 0} → (D → Device) → List TagDef → List (ToldCell D) → (List ℕ → Trace) → Type 0
AreTold {D} device tags cells traces =
    AllZip (λ def (c : ToldCell D). tag_trace_of traces def ≡ (device c.journal.dev).trace) (take (length cells) tags) cells

-- Why the opening stops after it has opened these cells. Whatever the store has for the devices of these cells once
-- they are back, it is a refusal of the tags. If they are back as the cells have them, then a crash has left of each
-- tag's device only what `AllStaySame` allows.
pub record IsStopped {D : Type 0} (device : D → Device) (tags : List TagDef) (cells : List (ToldCell D))
    (old now : List ℕ → Trace) (before faults : ℕ) (why : Status) : Type 0 where
  pub refused : (new : List ℕ → Trace) (after : ℕ) → AreOtherTagsSame (take (length cells) tags) now new
      → (before < 2 ^ 64 → after ≡ faults) → IsRefusal tags old new before after why
  pub same : (new : List ℕ → Trace) → AreOtherTagsSame (take (length cells) tags) now new → AreTold device tags cells new
      → AllStaySame tags old new
  pub counts : before < 2 ^ 64 → CountsStore {T = Unit {0}} (Err why) before faults

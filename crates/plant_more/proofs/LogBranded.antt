-- A log whose device is seen under a brand.
use Rattle.std.proofs.Common.{◌≡◌, ℕ, List, Option, None, Some, sym, ◌∙◌, ap, subst}
use Rattle.std.specs.Prelude.{IfSome, IsSome}
use Rattle.disk_model.specs.{Device, FitsName, Trace}
use Rattle.branded_disk.specs.{Past, branded, past_of}
use Rattle.value_rows.specs.{RawRow}
use Rattle.commit_log.specs.{LogRow, IsLogOpenedWell, LogBeganWell}
use Rattle.plant_store.proofs.DeviceNames.{own_name}
use Rattle.plant_more.specs.{KnownLog, EndedLog}
use Rattle.plant_more.specs.LogHeadline.{IsEnded}

-- its end is that of a log whose device is seen without the brand
pub unbranded : {D : Type 0} (device : D → Device) (past : Past) (files : List (List RawRow)) (known : KnownLog) (before now : ℕ) (e : EndedLog D)
    → IsEnded (branded device past) files known before now e → IsEnded device files known before now e
unbranded device past files known before now e ended = record {
  log = ended.log;
  notes = ended.notes;
  same_device = ended.same_device;
  history_is = ended.history_is;
  history = ended.history;
  notes_are = ended.notes_are;
  ended = ended.ended;
  made = ended.made;
  faultless = ended.faultless;
  begun = ended.begun;
  as_known = ended.as_known;
  refused = ended.refused;
}

-- what was opened of it began well from what the store had under this name when the command began
pub began_at : {D : Type 0} (device : D → Device) (past : Past) (dev : D) (name plant : List ℕ) (tags : ℕ) (opening : List LogRow)
    (opened_at : ℕ) (start : Trace) → FitsName name (device dev).handed → IsSome (device dev).handed.name → past name ≡ Some start
    → LogBeganWell plant tags opening opened_at (branded device past dev).handed (branded device past dev).trace
    → IsLogOpenedWell plant tags opening opened_at start (device dev).trace
began_at device past dev name plant tags opening opened_at start fits named told well =
    let is : past_of past (device dev).handed.name ≡ Some start = ap (past_of past) (own_name (device dev).handed name fits named) ∙ told in
    subst (λ (o : Option Trace). IfSome o (λ t. IsLogOpenedWell plant tags opening opened_at t (device dev).trace)) is well

-- Tag histories, and the devices that are back under the tags' names.
use Rattle.std.proofs.Common.{List, [], ◌∷◌, ℕ, Option, subst}
use Rattle.disk_model.specs.{Trace}
use Rattle.branded_disk.specs.{IsWholePast, Past, told_of}
use Rattle.tag_cell.specs.{TagHistory}
use Rattle.plant_store.specs.CellClosings.{AreHistoriesAt, IsHistoryAt}
use Rattle.plant_store.specs.Groups.{DeviceTraces}

-- histories over what is told are histories over what the store had, if it is told of each name
pub told_each : (past : Past) (old : DeviceTraces) → IsWholePast past old → (new : DeviceTraces) (names : List (List ℕ)) (ts : List TagHistory)
    → AreHistoriesAt past new names ts → AreHistoriesAt (told_of old) new names ts
told_each past old whole new [] [] is = tt
told_each past old whole new [] (t ∷ ts) is = absurd is
told_each past old whole new (n ∷ ns) [] is = absurd is
told_each past old whole new (n ∷ ns) (t ∷ ts) is = (
  subst (λ (o : Option Trace). IsHistoryAt n o (new n) t) (whole n) is.0,
  told_each past old whole new ns ts is.1,
)

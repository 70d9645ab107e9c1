-- Devices that are what they were when the command began.
use Rattle.std.proofs.Common.{◌≡◌, ℕ, List, Option, Some, refl, sym, subst}
use Rattle.std.specs.Prelude.{IfSome}
use Rattle.disk_model.specs.{Trace}
use Rattle.branded_disk.specs.{Past, IsUnused, IsWholePast}

-- if it is told of each name, then each device is unused
pub unused : (before : Past) (now : List ℕ → Trace) → IsWholePast before now → (name : List ℕ) → IsUnused before now name
unused before now whole name = subst (λ (o : Option Trace). IfSome o (λ t. now name ≡ t)) (sym (whole name)) refl

-- The refusal of a device is no read fault.
use Rattle.std.proofs.Common.{ℕ, List}
use Rattle.std.specs.Prelude.{◌≢◌}
use Rattle.trend_num.specs.{Rec}
use Rattle.disk_model.specs.{Trace}
use Rattle.tag_base.specs.{GroupDef}
use Rattle.plant_status.specs.{FileId}
use Rattle.plant_status.specs.declared.status.Status.{Status}
use Rattle.plant_status.specs.declared.status.Status.TheVariants.{ReadFault}
use Rattle.plant_store.specs.BookRefusals.{OfDamage, OfFault, OfMemory, OfVersion, OfWindows}
use Rattle.store_commands.specs.GroupRows.{IsGroupRowsRefusal, OfCells, OfCopies, OfOpening, OfWant}

-- the refusal of a group is no read fault
pub group_is_no_fault : (groups : List GroupDef) (records : List (List Rec)) (old new : List ℕ → Trace) (before now : ℕ) (why : Status)
    → IsGroupRowsRefusal groups records old new before now why → (which : FileId) → why ≢ ReadFault which
group_is_no_fault groups records old new before now why (OfOpening (OfFault i is at)) which same = cc
group_is_no_fault groups records old new before now why (OfOpening (OfDamage i a byte is at)) which same = cc
group_is_no_fault groups records old new before now why (OfOpening (OfVersion i input found version is at)) which same = cc
group_is_no_fault groups records old new before now why (OfOpening (OfWindows i windows rows is at)) which same = cc
group_is_no_fault groups records old new before now why (OfOpening (OfMemory is)) which same = cc
group_is_no_fault groups records old new before now why (OfCells i number is at) which same = cc
group_is_no_fault groups records old new before now why (OfCopies i number is at) which same = cc
group_is_no_fault groups records old new before now why (OfWant is) which same = cc

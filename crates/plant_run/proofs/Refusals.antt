-- Refusals of the commands are reported as they are.
use Rattle.std.proofs.Common.{inl, inr, ℕ, ◌^◌, ◌<◌, List, ◌≢◌}
use Rattle.plant_files.specs.{ToldFiles}
use Rattle.store_commands.specs.Commands.{IsCheckRefusal, IsTrendRefusal, OfBase, OfGroup, OfPlan, OfReader, OfTag, OfMemory}
use Rattle.plant_store.specs.Groups.{DeviceTraces}
use Rattle.disk_model.specs.{Rose}
use Rattle.trend_num.specs.{Rec}
use Rattle.tag_base.specs.{GroupDef}
use Rattle.plant_store.specs.BookRefusals as group
use Rattle.store_commands.specs.GroupRows.{IsGroupRowsRefusal, OfCells, OfCopies, OfOpening, OfWant}
use Rattle.plant_status.specs.{Unit}
use Rattle.plant_status.specs.declared.unit.Unit.TheVariants.{Tag, Group, Log}
use Rattle.plant_status.specs.declared.status.Status.TheVariants.{Done, WriteFault, DeviceFault, WantOfMemory}
use Rattle.store_commands.specs.FrameCommands as frame
use Rattle.store_commands.specs.FrameNames as frame_names
use Rattle.store_commands.specs.FrameRows as frame_rows

-- ---- a refusal is not Done, and no fault of the output

module _ (groups : List GroupDef) (records : List (List Rec)) (old new : DeviceTraces) (before now : ℕ) where
  rows_not_done : IsGroupRowsRefusal groups records old new before now Done → ⊥
  rows_not_done (OfOpening (group.OfFault i is at)) = cc
  rows_not_done (OfOpening (group.OfDamage i a byte is at)) = cc
  rows_not_done (OfOpening (group.OfVersion i input found version is at)) = cc
  rows_not_done (OfOpening (group.OfWindows i windows rows is at)) = cc
  rows_not_done (OfOpening (group.OfMemory is)) = cc
  rows_not_done (OfCells i number is at) = cc
  rows_not_done (OfCopies i number is at) = cc
  rows_not_done (OfWant is) = cc

  rows_no_output : IsGroupRowsRefusal groups records old new before now WriteFault → ⊥
  rows_no_output (OfOpening (group.OfFault i is at)) = cc
  rows_no_output (OfOpening (group.OfDamage i a byte is at)) = cc
  rows_no_output (OfOpening (group.OfVersion i input found version is at)) = cc
  rows_no_output (OfOpening (group.OfWindows i windows rows is at)) = cc
  rows_no_output (OfOpening (group.OfMemory is)) = cc
  rows_no_output (OfCells i number is at) = cc
  rows_no_output (OfCopies i number is at) = cc
  rows_no_output (OfWant is) = cc

  rows_rose : before < 2 ^ 64 → (unit : Unit) → IsGroupRowsRefusal groups records old new before now (DeviceFault unit) → Rose before now
  rows_rose few unit (OfOpening (group.OfFault i is at)) = at.cause few
  rows_rose few unit (OfOpening (group.OfDamage i a byte is at)) = cc
  rows_rose few unit (OfOpening (group.OfVersion i input found version is at)) = cc
  rows_rose few unit (OfOpening (group.OfWindows i windows rows is at)) = cc
  rows_rose few unit (OfOpening (group.OfMemory is)) = cc
  rows_rose few unit (OfCells i number is at) = cc
  rows_rose few unit (OfCopies i number is at) = cc
  rows_rose few unit (OfWant is) = cc

module _ (name plan_name : List ℕ) (told : ToldFiles) (old new : DeviceTraces) (before now : ℕ) where
  pub check_not_done : IsCheckRefusal name told old new before now Done → ⊥
  check_not_done (inl base) = base.0
  check_not_done (inr (inl tags)) = tags.2
  check_not_done (inr (inr memory)) = cc

  pub check_no_fault : IsCheckRefusal name told old new before now WriteFault → ⊥
  check_no_fault (inl base) = base.0
  check_no_fault (inr (inl tags)) = tags.2
  check_no_fault (inr (inr memory)) = cc

  done_is_not_memory : Done ≢ WantOfMemory
  done_is_not_memory same = cc

  fault_is_not_memory : WriteFault ≢ WantOfMemory
  fault_is_not_memory same = cc

  device_is_not_memory : (unit : Unit) → DeviceFault unit ≢ WantOfMemory
  device_is_not_memory unit same = cc

  pub trend_not_done : IsTrendRefusal name plan_name told old new before now Done → ⊥
  trend_not_done (OfBase refused same) = refused
  trend_not_done (OfPlan base read refused same) = refused
  trend_not_done (OfReader base plan read planned refused same) = (refused done_is_not_memory).first.refused
  trend_not_done (OfTag base plan lists read planned asked refused) = refused
  trend_not_done (OfGroup base plan lists cores opened planned asked refused) = rows_not_done base.groups.items _ _ _ _ _ refused
  trend_not_done (OfMemory same) = cc

  pub trend_no_fault : IsTrendRefusal name plan_name told old new before now WriteFault → ⊥
  trend_no_fault (OfBase refused same) = refused
  trend_no_fault (OfPlan base read refused same) = refused
  trend_no_fault (OfReader base plan read planned refused same) = (refused fault_is_not_memory).first.refused
  trend_no_fault (OfTag base plan lists read planned asked refused) = refused
  trend_no_fault (OfGroup base plan lists cores opened planned asked refused) = rows_no_output base.groups.items _ _ _ _ _ refused
  trend_no_fault (OfMemory same) = cc

  -- a device fault that is reported was counted
  pub check_rose : before < 2 ^ 64 → (unit : Unit) → IsCheckRefusal name told old new before now (DeviceFault unit) → Rose before now
  check_rose few unit (inl base) = absurd base.0
  check_rose few (Tag i) (inr (inl tags)) = tags.2.cause few
  check_rose few (Group i) (inr (inl tags)) = absurd tags.2
  check_rose few Log (inr (inl tags)) = absurd tags.2
  check_rose few unit (inr (inr memory)) = cc

  pub trend_rose : before < 2 ^ 64 → (unit : Unit) → IsTrendRefusal name plan_name told old new before now (DeviceFault unit)
      → Rose before now
  trend_rose few unit (OfBase refused same) = absurd refused
  trend_rose few unit (OfPlan base read refused same) = absurd refused
  trend_rose few unit (OfReader base plan read planned refused same) = absurd (refused (device_is_not_memory unit)).first.refused
  trend_rose few (Tag i) (OfTag base plan lists read planned asked refused) = refused.cause few
  trend_rose few (Group i) (OfTag base plan lists read planned asked refused) = absurd refused
  trend_rose few Log (OfTag base plan lists read planned asked refused) = absurd refused
  trend_rose few unit (OfGroup base plan lists cores opened planned asked refused) =
      rows_rose base.groups.items _ _ _ before now few unit refused
  trend_rose few unit (OfMemory same) = cc

module _ (name group calc : List ℕ) (told : ToldFiles) (old new : DeviceTraces) (before now : ℕ) where
  pub frames_not_done : frame.IsFramesRefusal name group calc told old new before now Done → ⊥
  frames_not_done (frame.OfBase refused same) = refused
  frames_not_done (frame.OfName base read (frame_names.NoGroup is none) same) = cc
  frames_not_done (frame.OfName base read (frame_names.NoCalculation g is there named none) same) = cc
  frames_not_done (frame.OfTag base g i k read named refused) = refused
  frames_not_done (frame.OfGroup base g i k cores opened named (frame_rows.OfFault is cause)) = cc
  frames_not_done (frame.OfGroup base g i k cores opened named (frame_rows.OfDamage at byte is shows)) = cc
  frames_not_done (frame.OfGroup base g i k cores opened named (frame_rows.OfVersion input found version is shows)) = cc
  frames_not_done (frame.OfGroup base g i k cores opened named (frame_rows.OfWindows windows rows is shows)) = cc
  frames_not_done (frame.OfGroup base g i k cores opened named (frame_rows.OfCells number is stood over)) = cc
  frames_not_done (frame.OfGroup base g i k cores opened named (frame_rows.OfCopies number is stood over)) = cc
  frames_not_done (frame.OfGroup base g i k cores opened named (frame_rows.OfMemory is)) = cc
  frames_not_done (frame.OfMemory is) = cc

  pub frames_no_fault : frame.IsFramesRefusal name group calc told old new before now WriteFault → ⊥
  frames_no_fault (frame.OfBase refused same) = refused
  frames_no_fault (frame.OfName base read (frame_names.NoGroup is none) same) = cc
  frames_no_fault (frame.OfName base read (frame_names.NoCalculation g is there named none) same) = cc
  frames_no_fault (frame.OfTag base g i k read named refused) = refused
  frames_no_fault (frame.OfGroup base g i k cores opened named (frame_rows.OfFault is cause)) = cc
  frames_no_fault (frame.OfGroup base g i k cores opened named (frame_rows.OfDamage at byte is shows)) = cc
  frames_no_fault (frame.OfGroup base g i k cores opened named (frame_rows.OfVersion input found version is shows)) = cc
  frames_no_fault (frame.OfGroup base g i k cores opened named (frame_rows.OfWindows windows rows is shows)) = cc
  frames_no_fault (frame.OfGroup base g i k cores opened named (frame_rows.OfCells number is stood over)) = cc
  frames_no_fault (frame.OfGroup base g i k cores opened named (frame_rows.OfCopies number is stood over)) = cc
  frames_no_fault (frame.OfGroup base g i k cores opened named (frame_rows.OfMemory is)) = cc
  frames_no_fault (frame.OfMemory is) = cc

  pub frames_rose : before < 2 ^ 64 → (unit : Unit) → frame.IsFramesRefusal name group calc told old new before now (DeviceFault unit) → Rose before now
  frames_rose few unit (frame.OfBase refused same) = absurd refused
  frames_rose few unit (frame.OfName base read (frame_names.NoGroup is none) same) = cc
  frames_rose few unit (frame.OfName base read (frame_names.NoCalculation g is there named none) same) = cc
  frames_rose few (Tag n) (frame.OfTag base g i k read named refused) = refused.cause few
  frames_rose few (Group n) (frame.OfTag base g i k read named refused) = absurd refused
  frames_rose few Log (frame.OfTag base g i k read named refused) = absurd refused
  frames_rose few unit (frame.OfGroup base g i k cores opened named (frame_rows.OfFault is cause)) = cause few
  frames_rose few unit (frame.OfGroup base g i k cores opened named (frame_rows.OfDamage at byte is shows)) = cc
  frames_rose few unit (frame.OfGroup base g i k cores opened named (frame_rows.OfVersion input found version is shows)) = cc
  frames_rose few unit (frame.OfGroup base g i k cores opened named (frame_rows.OfWindows windows rows is shows)) = cc
  frames_rose few unit (frame.OfGroup base g i k cores opened named (frame_rows.OfCells number is stood over)) = cc
  frames_rose few unit (frame.OfGroup base g i k cores opened named (frame_rows.OfCopies number is stood over)) = cc
  frames_rose few unit (frame.OfGroup base g i k cores opened named (frame_rows.OfMemory is)) = cc
  frames_rose few unit (frame.OfMemory is) = cc

-- The row of a calculation for which its group's device stands, and the row after one refresh; and why there is none.
use Rattle.std.specs.Prelude.{◌≡◌, ℕ, ◌^◌, ◌<◌, ◌≤◌, All, List, length, slice_get, Option, Some}
use Rattle.trend_num.specs.{Rec, CalcValue}
use Rattle.trend_num.specs.declared.refusal.What.TheVariants.{Cells, Copies}
use Rattle.disk_model.specs.{Rose, Shows, Trace}
use Rattle.sheet_law.specs.{complete_windows}
use Rattle.calc_refresh.specs.{lists_of, total_length, most_cells, most_copies, grid_of}
use Rattle.group_layout.specs.{IsGroupDamage, GainsGroupSync}
use Rattle.group_book.specs.{GroupOpening, SavesAhead, SavesShape, cut}
use Rattle.tag_base.specs.{GroupDef}
use Rattle.plant_status.specs.declared.mismatch.Place.TheVariants.{Version, Windows}
use Rattle.plant_status.specs.declared.mismatch.Seen.TheVariants.{Number}
use Rattle.plant_status.specs.declared.status.Status.{Status}
use Rattle.plant_status.specs.declared.status.Status.TheVariants.{DeviceFault, Damaged, Limit, Mismatch, WantOfMemory}
use Rattle.plant_status.specs.declared.unit.Unit.TheVariants.{Group}
use Rattle.plant_store.specs.Groups.{IsGroupOpening, group_parts_of, group_definition_text}
use Rattle.store_commands.specs.GroupRows.{AreRowsTold, cells_of}
use Rattle.store_commands.specs.Replies.{Rows}

-- The saved row and the refreshed row of calculation k of a group, whose tags recovered these records. The group was
-- opened over its device, and refreshed once from all these records. The first row is the one for which its device stood,
-- and the second is the one after the refresh. There are no fewer complete windows than before.
pub record AreFrameRows (g : GroupDef) (k : ℕ) (recovered : List (List Rec)) (o : Trace) (saved refreshed : List CalcValue) : Type 0 where
  pub opening : GroupOpening
  pub rows : Rows
  pub opened : IsGroupOpening g recovered o opening
  pub rows_are : AreRowsTold g recovered opening rows
  pub complete : length refreshed ≡ complete_windows (grid_of g.start g.period) recovered
  pub grown : length saved ≤ length refreshed
  pub saved_is : slice_get (lists_of opening.rows.items) k ≡ Some saved
  pub refreshed_is : slice_get rows k ≡ Some refreshed

-- The group's device stood for versions and rows that a refresh can start from. No version is above the number of records
-- of its tag. Each row has one value for each window that the first records complete, as many as the versions say. If the
-- device was whole, it has gained one sync and nothing else.
pub record HasStood (g : GroupDef) (recovered : List (List Rec)) (o p : Trace) : Type 0 where
  pub opening : GroupOpening
  pub opened : IsGroupOpening g recovered o opening
  pub shape : All (λ row. length row ≡ complete_windows (grid_of g.start g.period) (cut opening.versions.items recovered)) (lists_of opening.rows.items)
  pub synced : GainsGroupSync (group_definition_text g) o p

-- Why there are no rows of the group at place i. `o` is the trace of its device before, and `p` the one after. `before`
-- and `now` are the faults that the store has counted. In the cases from `OfDamage` to `OfCopies`, a device that was whole
-- or damaged has gained one sync and nothing else.
-- - `OfFault`: a call of its device has failed.
-- - `OfDamage`: the bytes of its device break its layout.
-- - `OfVersion`: a saved version is above the records of a tag. The status has the number of records, then the version.
-- - `OfWindows`: a saved row does not have one value for each complete window. The status has the number of windows,
--   then that of the values.
-- - `OfCells`: what was saved can be refreshed, but there would be too many cells.
-- - `OfCopies`: what was saved can be refreshed, and the cells are not too many; but the records of its tags are.
-- - `OfMemory`: there was not enough memory.
pub data IsFrameRowsRefusal (i : ℕ) (g : GroupDef) (recovered : List (List Rec)) (o p : Trace) (before now : ℕ) (why : Status)
    : Type 0 where
  OfFault : why ≡ DeviceFault (Group i) → (before < 2 ^ 64 → Rose before now) → IsFrameRowsRefusal i g recovered o p before now why
  OfDamage : (at : ℕ) (byte : Option ℕ) → why ≡ Damaged (Group i) at byte
      → Shows o (λ c. IsGroupDamage (group_definition_text g) (length g.inputs.items) (length g.calcs.calcs) c at byte)
      × GainsGroupSync (group_definition_text g) o p
      → IsFrameRowsRefusal i g recovered o p before now why
  OfVersion : (input found version : ℕ) → why ≡ Mismatch (Version i input) (Number found) (Number version)
      → Shows o (SavesAhead (group_definition_text g) (group_parts_of g) recovered input version found) × GainsGroupSync (group_definition_text g) o p
      → IsFrameRowsRefusal i g recovered o p before now why
  OfWindows : (windows rows : ℕ) → why ≡ Mismatch (Windows i) (Number windows) (Number rows)
      → Shows o (SavesShape (group_definition_text g) (group_parts_of g) recovered windows rows) × GainsGroupSync (group_definition_text g) o p
      → IsFrameRowsRefusal i g recovered o p before now why
  OfCells : (number : ℕ) → why ≡ Limit Cells number → HasStood g recovered o p
      → (number ≡ cells_of g recovered) × (most_cells < number)
      → IsFrameRowsRefusal i g recovered o p before now why
  OfCopies : (number : ℕ) → why ≡ Limit Copies number → HasStood g recovered o p
      → (cells_of g recovered ≤ most_cells) × (number ≡ total_length recovered) × (most_copies < number)
      → IsFrameRowsRefusal i g recovered o p before now why
  OfMemory : why ≡ WantOfMemory → IsFrameRowsRefusal i g recovered o p before now why

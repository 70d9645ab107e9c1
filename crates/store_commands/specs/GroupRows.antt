-- The rows of the groups of a base, each refreshed once from the records of its tags.
use Rattle.std.specs.Prelude.{◌≡◌, ℕ, ◌*◌, ◌<◌, ◌≤◌, All, List, length, map, slice_index_or}
use Rattle.trend_num.specs.{Rec}
use Rattle.trend_num.specs.declared.refusal.What.TheVariants.{Cells, Copies}
use Rattle.tag_core.specs.Core.{Core}
use Rattle.disk_model.specs.{Trace}
use Rattle.sheet_law.specs.{IsScratch, complete_windows}
use Rattle.calc_refresh.specs.{total_length, most_cells, most_copies, grid_of}
use Rattle.group_layout.specs.{GainsGroupSync}
use Rattle.tag_base.specs.{GroupDef}
use Rattle.group_book.specs.{GroupOpening, AreRowsOver, IsRight}
use Rattle.plant_status.specs.declared.status.Status.{Status}
use Rattle.plant_status.specs.declared.status.Status.TheVariants.{Limit, WantOfMemory}
use Rattle.plant_store.specs.Groups.{AreGroupsOpened, DeviceTraces, IsGroupOpening, input_records_of, group_definition_text, group_trace_at}
use Rattle.plant_store.specs.BookRefusals.{IsRefusal}
use Rattle.store_commands.specs.Refreshing.{AreWithinLimits}
use Rattle.store_commands.specs.Replies.{Rows}

-- the records of each tag
abbrev pub tag_records : List Core → List (List Rec)
tag_records cores = map (λ core. core.state.records) cores

-- how many cells a group has over these records
abbrev pub cells_of : GroupDef → List (List Rec) → ℕ
cells_of g recovered = complete_windows (grid_of g.start g.period) recovered * length g.calcs.calcs

-- These are the rows of a group that was opened so, after one refresh from all records of its tags, which pass no limit.
-- There is a row for each calculation, with one value for each complete window. If the rows that its device stood for were
-- right, these are the rows from scratch on all records. In any case a window that is due over what was saved has its
-- values from scratch, and any other has the values that were saved.
pub record AreRowsTold (g : GroupDef) (recovered : List (List Rec)) (opening : GroupOpening) (rows : Rows) : Type 0 where
  pub within : AreWithinLimits (cells_of g recovered) recovered
  pub rows_are : AreRowsOver g.calcs (grid_of g.start g.period) opening recovered rows
  pub scratch : IsRight g.calcs (grid_of g.start g.period) opening recovered
      → IsScratch g.calcs (grid_of g.start g.period) recovered rows

-- these are the rows of a group, which was opened over its device and refreshed once
pub record IsGroupTold (g : GroupDef) (recovered : List (List Rec)) (o : Trace) (rows : Rows) : Type 0 where
  pub opening : GroupOpening
  pub opened : IsGroupOpening g recovered o opening
  pub rows_are : AreRowsTold g recovered opening rows

-- the same for each group
pub record AreGroupsTold (groups : List GroupDef) (records : List (List Rec)) (old : DeviceTraces) (groups_rows : List Rows) : Type 0 where
  pub as_many : length groups_rows ≡ length groups
  pub each : (i : ℕ) (g : GroupDef) (r : Rows) → i < length groups
      → IsGroupTold (slice_index_or groups i g) (input_records_of records (slice_index_or groups i g))
      (group_trace_at old (slice_index_or groups i g)) (slice_index_or groups_rows i r)

-- the device of each group has gained one sync and nothing else, if it had a finished layout of the group or a damaged one
abbrev pub AllGainSync : List GroupDef → DeviceTraces → DeviceTraces → Type 0
AllGainSync groups old new =
    All (λ g. GainsGroupSync (group_definition_text g) (group_trace_at old g) (group_trace_at new g)) groups

-- All groups were opened, and the one at place i is the first that is over a limit. A device that was whole has gained
-- one sync alone.
pub record IsTooMuchAt (groups : List GroupDef) (records : List (List Rec)) (old new : DeviceTraces) (i : ℕ)
    (P : GroupDef → List (List Rec) → Type 0) : Type 0 where
  pub g : GroupDef
  pub openings : List GroupOpening
  pub there : i < length groups
  pub is_group : slice_index_or groups i g ≡ g
  pub opened : AreGroupsOpened (length groups) groups records old openings
  pub front : (k : ℕ) (d : GroupDef) → k < i → AreWithinLimits (cells_of (slice_index_or groups k d) (input_records_of records (slice_index_or groups k d)))
      (input_records_of records (slice_index_or groups k d))
  pub over : P g (input_records_of records g)
  pub synced : AllGainSync groups old new

-- Why there are no rows: a group did not open; all opened, but one would have too many cells, or else too many records of
-- its tags; or there was not enough memory.
pub data IsGroupRowsRefusal (groups : List GroupDef) (records : List (List Rec)) (old new : DeviceTraces) (before now : ℕ) (why : Status)
    : Type 0 where
  OfOpening : IsRefusal groups records old before now why → IsGroupRowsRefusal groups records old new before now why
  OfCells : (i number : ℕ) → why ≡ Limit Cells number → IsTooMuchAt groups records old new i (λ g recovered. (number ≡ cells_of g recovered) × (most_cells < number))
      → IsGroupRowsRefusal groups records old new before now why
  OfCopies : (i number : ℕ) → why ≡ Limit Copies number
      → IsTooMuchAt groups records old new i (λ g recovered. (cells_of g recovered ≤ most_cells) × (number ≡ total_length recovered)
      × (most_copies < number))
      → IsGroupRowsRefusal groups records old new before now why
  OfWant : why ≡ WantOfMemory → IsGroupRowsRefusal groups records old new before now why

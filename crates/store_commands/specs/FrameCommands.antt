-- What `frames` prints, why it prints nothing, and what it leaves of the devices.
use Rattle.std.specs.Prelude.{◌≡◌, ◌≢◌, ◌⊎◌, ℕ, List, All}
use Rattle.disk_model.specs.{During}
use Rattle.trend_num.specs.{CalcValue}
use Rattle.tag_core.specs.Core.{Core}
use Rattle.tag_base.specs.{Base, GroupDef}
use Rattle.plant_status.specs.declared.status.Status.{Status}
use Rattle.plant_status.specs.declared.status.Status.TheVariants.{WantOfMemory}
use Rattle.plant_files.specs.{ToldFiles, IsBaseFile, IsBaseRefusal}
use Rattle.plant_store.specs.TagRefusals.{IsRefusal}
use Rattle.plant_store.specs.Tags.{AllStaySame}
use Rattle.tag_cell.specs.{device_name}
use Rattle.group_layout.specs.{GainsGroupSync}
use Rattle.group_book.specs.{BookStaysSame}
use Rattle.plant_store.specs.Groups.{group_parts_of, input_records_of, group_definition_text, group_trace_at, DeviceTraces}
use Rattle.plant_store.specs.Groups as group
use Rattle.plant_store.specs.{AreUntouched, IsOpenedBase}
use Rattle.store_commands.specs.GroupRows.{tag_records}
use Rattle.store_commands.specs.FrameLines.{TellsFrames}
use Rattle.store_commands.specs.FrameNames.{IsNamed, IsNameRefusal}
use Rattle.store_commands.specs.FrameRows.{AreFrameRows, IsFrameRowsRefusal}

-- A base was read, and its tags were opened. The names stand for the calculation at place k of the group at place i.
-- These are the saved row of the calculation and the refreshed one. The text is about their frames.
pub record IsFrames (name group_name calc_name : List ℕ) (least : ℕ) (told : ToldFiles) (old : DeviceTraces) (text : List ℕ) : Type 0 where
  pub base : Base
  pub g : GroupDef
  pub i : ℕ
  pub k : ℕ
  pub cores : List Core
  pub saved : List CalcValue
  pub refreshed : List CalcValue
  pub opened : IsOpenedBase name told old base cores
  pub named : IsNamed base.groups.items group_name calc_name g i k
  pub rows : AreFrameRows g k (input_records_of (tag_records cores) g) (group_trace_at old g) saved refreshed
  pub tells : TellsFrames g least saved refreshed text

-- The refusals, in their order: of the base, of the names, of a tag, of the group. A refusal before that of a tag
-- changes no device. There may be not enough memory at any time.
pub data IsFramesRefusal (name group_name calc_name : List ℕ) (told : ToldFiles) (old new : DeviceTraces) (before now : ℕ) (why : Status)
    : Type 0 where
  OfBase : IsBaseRefusal (told name) why → AreUntouched old new
      → IsFramesRefusal name group_name calc_name told old new before now why
  OfName : (base : Base) → IsBaseFile (told name) base → IsNameRefusal base.groups.items group_name calc_name why
      → AreUntouched old new → IsFramesRefusal name group_name calc_name told old new before now why
  OfTag : (base : Base) (g : GroupDef) (i k : ℕ) → IsBaseFile (told name) base
      → IsNamed base.groups.items group_name calc_name g i k → IsRefusal base.tags.items old new before now why
      → IsFramesRefusal name group_name calc_name told old new before now why
  OfGroup : (base : Base) (g : GroupDef) (i k : ℕ) (cores : List Core) → IsOpenedBase name told old base cores
      → IsNamed base.groups.items group_name calc_name g i k
      → IsFrameRowsRefusal i g (input_records_of (tag_records cores) g) (group_trace_at old g) (group_trace_at new g) before now why
      → IsFramesRefusal name group_name calc_name told old new before now why
  OfMemory : why ≡ WantOfMemory → IsFramesRefusal name group_name calc_name told old new before now why

-- ---- devices

-- Only the devices of the base's tags and of the group with this name have changed. A crash at any moment since then
-- leaves of each one of these images:
-- - one that a crash before the command might have left;
-- - one that recovers the same (of a tag), or stands for the same (of the group);
-- - of a tag, one that recovers the tag as it is opened.
pub record HaveStayed (name group_name calc_name : List ℕ) (told : ToldFiles) (old new : DeviceTraces) : Type 0 where
  pub base : Base
  pub g : GroupDef
  pub i : ℕ
  pub k : ℕ
  pub read : IsBaseFile (told name) base
  pub named : IsNamed base.groups.items group_name calc_name g i k
  pub tags_stay : AllStaySame base.tags.items old new
  pub group_stays : During (group_trace_at old g) (group_trace_at new g) (BookStaysSame (group_definition_text g) (group_parts_of g) (group_trace_at old g))
  pub rest : (n : List ℕ) → All (λ def. n ≢ device_name def.name) base.tags.items → n ≢ group.device_name g.name → new n ≡ old n

-- either no device has changed, or only those of the tags and of the group have, and these keep what they stand for
abbrev pub AreFramesKept : List ℕ → List ℕ → List ℕ → ToldFiles → DeviceTraces → DeviceTraces → Type 0
AreFramesKept name group_name calc_name told old new = AreUntouched old new ⊎ HaveStayed name group_name calc_name told old new

-- the device of the group with this name has gained one sync and nothing else, if it had a finished layout of the group
-- or a damaged one
pub record HasGroupSynced (name group_name calc_name : List ℕ) (told : ToldFiles) (old new : DeviceTraces) : Type 0 where
  pub base : Base
  pub g : GroupDef
  pub i : ℕ
  pub k : ℕ
  pub read : IsBaseFile (told name) base
  pub named : IsNamed base.groups.items group_name calc_name g i k
  pub synced : GainsGroupSync (group_definition_text g) (group_trace_at old g) (group_trace_at new g)

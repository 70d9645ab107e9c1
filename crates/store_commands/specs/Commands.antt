-- What the commands over stored archives print, and why they print nothing.
use Rattle.std.specs.Prelude.{◌≡◌, ◌≢◌, ◌⊎◌, ℕ, List, All}
use Rattle.tag_core.specs.Core.{Core}
use Rattle.tag_base.specs.{Base, Plan}
use Rattle.value_rows.specs.{Query}
use Rattle.plant_status.specs.declared.status.Status.{Status}
use Rattle.plant_status.specs.declared.status.Status.TheVariants.{WantOfMemory}
use Rattle.plant_files.specs.{IsBaseFile, IsBaseRefusal, IsPlanFile, IsPlanRefusal, ToldFiles, AreQueries, IsQueriesRefusal}
use Rattle.tag_cell.specs.{device_name}
use Rattle.plant_store.specs.Tags.{AllStaySame}
use Rattle.trend_report.specs.{check_text}
use Rattle.plant_store.specs.TagRefusals.{IsRefusal}
use Rattle.plant_store.specs.Groups as group
use Rattle.plant_store.specs.Groups.{DeviceTraces}
use Rattle.plant_store.specs.{AreUntouched, IsOpenedBase}
use Rattle.store_commands.specs.Replies.{Rows, trend_text}
use Rattle.store_commands.specs.GroupRows.{AllGainSync, AreGroupsTold, IsGroupRowsRefusal, tag_records}

-- ---- check

-- a base was read, its tags were opened, and this text has a line for each of them
pub record IsChecked (name : List ℕ) (told : ToldFiles) (old : DeviceTraces) (text : List ℕ) : Type 0 where
  pub base : Base
  pub cores : List Core
  pub opened : IsOpenedBase name told old base cores
  pub same : text ≡ check_text base.tags.items cores

-- the base is refused, and no device has changed; or its tags are refused; or there was not enough memory, at any time
abbrev pub IsCheckRefusal : List ℕ → ToldFiles → DeviceTraces → DeviceTraces → ℕ → ℕ → Status → Type 0
IsCheckRefusal name told old new before now why = (IsBaseRefusal (told name) why × AreUntouched old new)
    ⊎ (((base : Base) × IsBaseFile (told name) base × IsRefusal base.tags.items old new before now why)
    ⊎ (why ≡ WantOfMemory))

-- ---- trend

-- A base was read, and its tags were opened. The plan and the files of its readers were read. These are the rows of the
-- groups, and the text has the replies.
pub record IsTrend (name plan_name : List ℕ) (told : ToldFiles) (old : DeviceTraces) (text : List ℕ) : Type 0 where
  pub base : Base
  pub plan : Plan
  pub lists : List (List Query)
  pub cores : List Core
  pub groups : List Rows
  pub opened : IsOpenedBase name told old base cores
  pub planned : IsPlanFile base.groups.items (told plan_name) plan
  pub asked : AreQueries base told plan.readers.items lists
  pub rows : AreGroupsTold base.groups.items (tag_records cores) old groups
  pub same : text ≡ trend_text cores groups lists

-- The refusals, in their order: of the base, of the plan, of a reader's file, of a tag, of a group. A refusal before
-- that of a tag changes no device. There may be not enough memory at any time.
pub data IsTrendRefusal (name plan_name : List ℕ) (told : ToldFiles) (old new : DeviceTraces) (before now : ℕ) (why : Status) : Type 0 where
  OfBase : IsBaseRefusal (told name) why → AreUntouched old new → IsTrendRefusal name plan_name told old new before now why
  OfPlan : (base : Base) → IsBaseFile (told name) base
      → IsPlanRefusal base.groups.items (told plan_name) why → AreUntouched old new → IsTrendRefusal name plan_name told old new before now why
  OfReader : (base : Base) (plan : Plan) → IsBaseFile (told name) base
      → IsPlanFile base.groups.items (told plan_name) plan → IsQueriesRefusal base told plan.readers.items why
      → AreUntouched old new → IsTrendRefusal name plan_name told old new before now why
  OfTag : (base : Base) (plan : Plan) (lists : List (List Query)) → IsBaseFile (told name) base
      → IsPlanFile base.groups.items (told plan_name) plan → AreQueries base told plan.readers.items lists
      → IsRefusal base.tags.items old new before now why → IsTrendRefusal name plan_name told old new before now why
  OfGroup : (base : Base) (plan : Plan) (lists : List (List Query)) (cores : List Core) → IsOpenedBase name told old base cores
      → IsPlanFile base.groups.items (told plan_name) plan → AreQueries base told plan.readers.items lists
      → IsGroupRowsRefusal base.groups.items (tag_records cores) old new before now why
      → IsTrendRefusal name plan_name told old new before now why
  OfMemory : why ≡ WantOfMemory → IsTrendRefusal name plan_name told old new before now why

-- ---- devices

-- the device of each group of the base has gained one sync and nothing else, if it had a finished layout of the group or
-- a damaged one
pub record HaveGroupsSynced (name : List ℕ) (told : ToldFiles) (old new : DeviceTraces) : Type 0 where
  pub base : Base
  pub read : IsBaseFile (told name) base
  pub synced : AllGainSync base.groups.items old new

-- each device is as it was, except those of the base's tags and groups
abbrev pub AreOtherDevicesSame : Base → DeviceTraces → DeviceTraces → Type 0
AreOtherDevicesSame base old new = (n : List ℕ) → All (λ def. n ≢ device_name def.name) base.tags.items
    → All (λ g. n ≢ group.device_name g.name) base.groups.items → new n ≡ old n

-- Either no device has changed. Or only those of the base's tags and groups have, and a crash at any moment since then
-- leaves of each one of these images:
-- - one that a crash before the command might have left;
-- - one that recovers the same (of a tag), or stands for the same (of a group);
-- - of a tag, one that recovers the tag as it is opened.
abbrev pub AreAllKept : List ℕ → ToldFiles → DeviceTraces → DeviceTraces → Type 0
AreAllKept name told old new = AreUntouched old new
    ⊎ ((base : Base) × IsBaseFile (told name) base × AllStaySame base.tags.items old new
    × group.AllStaySame base.groups.items old new × AreOtherDevicesSame base old new)

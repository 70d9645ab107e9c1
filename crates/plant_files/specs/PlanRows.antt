-- What is read of a base, a plan over it and its files, and why it is refused.
use Rattle.std.specs.Prelude.{◌≡◌, ◌≢◌, ℕ, ◌<◌, ◌≤◌, List, All, AllPairs, length, vec_len}
use Rattle.trend_num.specs.{TuningInRange}
use Rattle.plant_status.specs.declared.status.Status.{Status}
use Rattle.plant_status.specs.declared.status.Status.TheVariants.{WantOfMemory}
use Rattle.tag_base.specs.{Base, Plan, IsSoundGroup}
use Rattle.value_rows.specs.{Query, RawRow}
use Rattle.plant_files.specs.Asked.{AreQueries, IsQueriesRefusal, IsQueryOfBase}
use Rattle.plant_files.specs.Collected.{AreCollectedRows, AreRowsTooMany, IsRowOfBase, IsCollectedRefusal, most_collector_rows, row_count}
use Rattle.plant_files.specs.RowFiles.{ToldFiles}
use Rattle.plant_files.specs.Texts.{IsBaseFile, IsBaseRefusal, IsPlanFile, IsPlanRefusal}

-- ---- what is read

-- the tunings of a base are in range, its groups name only tags and calculations that exist, and no two tags or groups
-- have one name
pub record IsGoodBase (base : Base) : Type 0 where
  pub tuned : All (λ def. TuningInRange def.tuning) base.tags.items
  pub sound : All (IsSoundGroup (length base.tags.items)) base.groups.items
  pub distinct : AllPairs (λ a b. a.name ≢ b.name) base.tags.items
  pub distinct_groups : AllPairs (λ a b. a.name ≢ b.name) base.groups.items

-- the rows of collectors are of the tags of a base, and in range
abbrev pub AreRowsOfBase : Base → List (List RawRow) → Type 0
AreRowsOfBase base rows = All (All (IsRowOfBase base)) rows

-- the refreshers of a plan are of the groups of a base
abbrev pub AreRefreshersOf : Base → Plan → Type 0
AreRefreshersOf base plan = All (λ r. r.group < vec_len base.groups) plan.refreshers.items

-- the rows of a plan over a base are of its tags and in range; the queries are of its tags and groups, and the
-- refreshers of its groups
pub record IsGoodPlan (base : Base) (plan : Plan) (rows : List (List RawRow)) (queries : List (List Query)) : Type 0 where
  pub rows_of_tags : AreRowsOfBase base rows
  pub queries_of_base : All (All (IsQueryOfBase base)) queries
  pub refreshers_of_groups : AreRefreshersOf base plan

-- the base was read from the file of the first name, and the plan from that of the second; these are the rows of its
-- collectors, each read from its file
pub record ArePlanRowsRead (name plan_name : List ℕ) (told : ToldFiles) (base : Base) (plan : Plan) (rows : List (List RawRow)) : Type 0 where
  pub read : IsBaseFile (told name) base
  pub planned : IsPlanFile base.groups.items (told plan_name) plan
  pub fed : AreCollectedRows base told plan.collectors.items rows

-- the files were read so, and there are not too many rows
pub record IsCollected (name plan_name : List ℕ) (told : ToldFiles) (base : Base) (plan : Plan) (rows : List (List RawRow)) : Type 0 where
  pub files : ArePlanRowsRead name plan_name told base plan rows
  pub few : row_count rows ≤ most_collector_rows

-- the files were read so, and these are the queries of the plan's readers, each read from its file
pub record IsPlanned (name plan_name : List ℕ) (told : ToldFiles) (base : Base) (plan : Plan) (rows : List (List RawRow))
    (queries : List (List Query)) : Type 0 where
  pub collected : IsCollected name plan_name told base plan rows
  pub asked : AreQueries base told plan.readers.items queries

-- ---- why it is refused

-- the refusals, in their order: of the base, of the plan, of a collector's file
pub data IsReadRefusal (name plan_name : List ℕ) (told : ToldFiles) (why : Status) : Type 0 where
  OfBase : IsBaseRefusal (told name) why → IsReadRefusal name plan_name told why
  OfPlan : (base : Base) → IsBaseFile (told name) base → IsPlanRefusal base.groups.items (told plan_name) why
      → IsReadRefusal name plan_name told why
  OfCollector : (base : Base) (plan : Plan) → IsBaseFile (told name) base → IsPlanFile base.groups.items (told plan_name) plan
      → IsCollectedRefusal base told plan.collectors.items why → IsReadRefusal name plan_name told why

-- the refusals, in their order: of those files; or the rows are too many
pub data IsCollectingRefusal (name plan_name : List ℕ) (told : ToldFiles) (why : Status) : Type 0 where
  OfReading : IsReadRefusal name plan_name told why → IsCollectingRefusal name plan_name told why
  OfMany : (base : Base) (plan : Plan) (rows : List (List RawRow)) → ArePlanRowsRead name plan_name told base plan rows
      → AreRowsTooMany (row_count rows) why → IsCollectingRefusal name plan_name told why

-- the refusals, in their order: of those files, of a reader's; or the rows are too many. Want of memory may come at any
-- time
pub data IsPlanningRefusal (name plan_name : List ℕ) (told : ToldFiles) (why : Status) : Type 0 where
  OfFiles : IsReadRefusal name plan_name told why → IsPlanningRefusal name plan_name told why
  OfReader : (base : Base) (plan : Plan) (rows : List (List RawRow)) → ArePlanRowsRead name plan_name told base plan rows
      → IsQueriesRefusal base told plan.readers.items why → IsPlanningRefusal name plan_name told why
  OfRows : (base : Base) (plan : Plan) (rows : List (List RawRow)) (lists : List (List Query))
      → ArePlanRowsRead name plan_name told base plan rows → AreQueries base told plan.readers.items lists
      → AreRowsTooMany (row_count rows) why → IsPlanningRefusal name plan_name told why
  OfMemory : why ≡ WantOfMemory → IsPlanningRefusal name plan_name told why

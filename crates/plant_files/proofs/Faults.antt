-- Of which file a read fault is reported.
use Rattle.std.proofs.Common.{arith, ◌≡◌, ℕ, List, Option}
use Rattle.std.specs.Prelude.{◌≢◌}
use Rattle.byte_io.specs.{FileTold, IsFaultOf}
use Rattle.tag_base.specs.{Base, GroupDef, Plan}
use Rattle.plant_status.specs.{FileId}
use Rattle.plant_status.specs.declared.file.FileId.TheVariants as file
use Rattle.plant_status.specs.declared.status.Status.{Status}
use Rattle.plant_status.specs.declared.status.Status.TheVariants.{ReadFault, WantOfMemory}
use Rattle.plant_files.specs.{IsQueriesRefusal, IsCollectedRefusal, IsFaultOfPlanned, ToldFiles, IsBaseFile, IsBaseRefusal, IsPlanFile, IsPlanRefusal}
use Rattle.plant_files.specs.Reading.{IsFaultAt}

-- want of memory, and more rows than there may be, are no read fault
memory_is_no_fault : (which : FileId) → ReadFault which ≢ WantOfMemory
memory_is_no_fault which same = cc

-- two files are not one
base_is_no_plan : file.Plan ≢ file.Base
base_is_no_plan same = cc

base_is_no_collector : (place : ℕ) → file.Collector place ≢ file.Base
base_is_no_collector place same = cc

base_is_no_reader : (place : ℕ) → file.Reader place ≢ file.Base
base_is_no_reader place same = cc

plan_is_no_base : file.Base ≢ file.Plan
plan_is_no_base same = cc

plan_is_no_collector : (place : ℕ) → file.Collector place ≢ file.Plan
plan_is_no_collector place same = cc

plan_is_no_reader : (place : ℕ) → file.Reader place ≢ file.Plan
plan_is_no_reader place same = cc

collector_is_no_base : (place : ℕ) → file.Base ≢ file.Collector place
collector_is_no_base place same = cc

collector_is_no_plan : (place : ℕ) → file.Plan ≢ file.Collector place
collector_is_no_plan place same = cc

collector_is_no_reader : (place other : ℕ) → file.Reader other ≢ file.Collector place
collector_is_no_reader place other same = cc

reader_is_no_base : (place : ℕ) → file.Base ≢ file.Reader place
reader_is_no_base place same = cc

reader_is_no_plan : (place : ℕ) → file.Plan ≢ file.Reader place
reader_is_no_plan place same = cc

reader_is_no_collector : (place other : ℕ) → file.Collector other ≢ file.Reader place
reader_is_no_collector place other same = cc

module _ (name plan_name : List ℕ) (told : ToldFiles) (failed : Option (List ℕ)) (why : Status) where
  -- what is no read fault is reported of no file
  pub of_none : ((which : FileId) → why ≢ ReadFault which) → IsFaultOfPlanned name plan_name told failed why
  of_none other = grind arith

  -- the refusal of a base names the base
  pub of_base : (t : FileTold) → IsBaseRefusal t why → ((which : FileId) → why ≡ ReadFault which → IsFaultOf failed name)
      → IsFaultOfPlanned name plan_name told failed why
  of_base t refused whose = grind (arith, base_is_no_plan, base_is_no_collector, base_is_no_reader)

  -- that of a plan names the plan
  pub of_plan : (groups : List GroupDef) (t : FileTold) → IsPlanRefusal groups t why
      → ((which : FileId) → why ≡ ReadFault which → IsFaultOf failed plan_name) → IsFaultOfPlanned name plan_name told failed why
  of_plan groups t refused whose = grind (arith, plan_is_no_base, plan_is_no_collector, plan_is_no_reader)

  -- that of the rows names a collector
  pub of_collector : (base : Base) (plan : Plan) → IsBaseFile (told name) base → IsPlanFile base.groups.items (told plan_name) plan
      → IsCollectedRefusal base told plan.collectors.items why
      → ((place : ℕ) → why ≡ ReadFault (file.Collector place) → IsFaultAt plan.collectors.items place failed)
      → IsFaultOfPlanned name plan_name told failed why
  of_collector base plan read planned refused whose = record {
    base = grind (arith, collector_is_no_base, memory_is_no_fault);
    plan = grind (arith, collector_is_no_plan, memory_is_no_fault);
    collector = λ place same. (base, plan, read, planned, whose place same);
    reader = grind (arith, collector_is_no_reader, memory_is_no_fault);
  }

  -- that of the queries names a reader
  pub of_reader : (base : Base) (plan : Plan) → IsBaseFile (told name) base → IsPlanFile base.groups.items (told plan_name) plan
      → IsQueriesRefusal base told plan.readers.items why
      → ((place : ℕ) → why ≡ ReadFault (file.Reader place) → IsFaultAt plan.readers.items place failed)
      → IsFaultOfPlanned name plan_name told failed why
  of_reader base plan read planned refused whose = record {
    base = grind (arith, reader_is_no_base, memory_is_no_fault);
    plan = grind (arith, reader_is_no_plan, memory_is_no_fault);
    collector = grind (arith, reader_is_no_collector, memory_is_no_fault);
    reader = λ place same. (base, plan, read, planned, whose place same);
  }

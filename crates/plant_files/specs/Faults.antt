-- Whose read failed, if the status is a read fault.
use Rattle.std.specs.Prelude.{◌≡◌, ℕ, List, Option}
use Rattle.byte_io.specs.{IsFaultOf}
use Rattle.tag_base.specs.{Base, Plan}
use Rattle.plant_status.specs.declared.file.FileId.TheVariants as file
use Rattle.plant_status.specs.declared.status.Status.{Status}
use Rattle.plant_status.specs.declared.status.Status.TheVariants.{ReadFault}
use Rattle.plant_files.specs.Reading.{IsFaultAt}
use Rattle.plant_files.specs.RowFiles.{ToldFiles}
use Rattle.plant_files.specs.Texts.{IsBaseFile, IsPlanFile}

-- if the status is a read fault, and it is known whose read failed last, that is the file in the status: the file of
-- the base, of the plan, or of a collector or a reader of the plan that was read
pub record IsFaultOfPlanned (name plan_name : List ℕ) (told : ToldFiles) (failed : Option (List ℕ)) (why : Status) : Type 0 where
  pub base : why ≡ ReadFault file.Base → IsFaultOf failed name
  pub plan : why ≡ ReadFault file.Plan → IsFaultOf failed plan_name
  pub collector : (place : ℕ) → why ≡ ReadFault (file.Collector place) → (base : Base) × (plan : Plan)
      × IsBaseFile (told name) base × IsPlanFile base.groups.items (told plan_name) plan
      × IsFaultAt plan.collectors.items place failed
  pub reader : (place : ℕ) → why ≡ ReadFault (file.Reader place) → (base : Base) × (plan : Plan)
      × IsBaseFile (told name) base × IsPlanFile base.groups.items (told plan_name) plan
      × IsFaultAt plan.readers.items place failed

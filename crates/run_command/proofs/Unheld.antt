-- A session that is not held for its devices has no fault of a file.
use Rattle.std.proofs.Common.{◌≡◌, ℕ, Result, Ok, Err, refl, subst, String}
use Rattle.std.specs.Prelude.{IfErr}
use Rattle.std.specs.declared.alloc.Global.{Global}
use Rattle.plant_status.specs.declared.status.Status.{Status}
use Rattle.plant_status.specs.declared.status.Status.TheVariants.{ReadFault}
use Rattle.plant_files.specs.Reading.{faults_after, faults_told}
use Rattle.tag_base.specs.{Base}
use Rattle.plant_store.specs.TagRefusals as tags
use Rattle.plant_store.specs.Groups.{DeviceTraces}
use Rattle.plant_store.specs.BookRefusals.{OfDamage, OfFault, OfMemory, OfVersion, OfWindows}
use Rattle.plant_store.specs.{OfGroups, OfTags}
use Rattle.run_command.specs.Runs.{IsNoReadFault, IsUnopened, OfPlant, OfWant}

-- no refusal of devices is a read fault
pub unopened_is_no_fault : (base : Base) (old new : DeviceTraces) (before now : ℕ) (why : Status) → IsUnopened base old new before now why
    → IsNoReadFault why
unopened_is_no_fault base old new before now why (OfPlant (OfTags is) kept) which same =
    subst (tags.IsRefusal base.tags.items old new before now) same is
unopened_is_no_fault base old new before now why (OfPlant (OfGroups cores opened few (OfFault i is at)) kept) which same = cc
unopened_is_no_fault base old new before now why (OfPlant (OfGroups cores opened few (OfDamage i a byte is at)) kept) which same = cc
unopened_is_no_fault base old new before now why (OfPlant (OfGroups cores opened few (OfVersion i input found version is at)) kept) which same = cc
unopened_is_no_fault base old new before now why (OfPlant (OfGroups cores opened few (OfWindows i windows rows is at)) kept) which same = cc
unopened_is_no_fault base old new before now why (OfPlant (OfGroups cores opened few (OfMemory is)) kept) which same = cc
unopened_is_no_fault base old new before now why (OfWant is untouched) which same = cc

-- what is no read fault counts none
told_none : (why : Status) (n : ℕ) → IsNoReadFault why → faults_told why n ≡ n
told_none (ReadFault which) n none = absurd (none which refl)
told_none other n none = refl

pub after_none : (answer : Result (String Global) Status) (n : ℕ) → IfErr answer IsNoReadFault → faults_after answer n ≡ n
after_none (Ok text) n other = refl
after_none (Err why) n other = told_none why n other

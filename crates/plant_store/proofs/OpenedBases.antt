-- The refusal of a base's tags, and how many records these have.
use Rattle.std.proofs.Common.{◌≡◌, inl, inr, ℕ, ◌^◌, ◌<◌, ◌≤◌, List, All, length, Result, Ok, Err, refl, subst, arith}
use Rattle.std.specs.Prelude.{◌≢◌}
use Rattle.std.proofs.lemmas.List.Sums.{get_or-le-sum_by}
use Rattle.trend_num.specs.{most_stored, TagDef}
use Rattle.tag_core.specs.Core.{Core}
use Rattle.disk_model.specs.{Trace}
use Rattle.device_layout.specs.{OpenNo}
use Rattle.device_layout.specs.declared.failure.OpenNo.TheVariants.{DeviceFault}
use Rattle.plant_status.specs.{FileId}
use Rattle.plant_status.specs.declared.status.Status.{Status}
use Rattle.plant_status.specs.declared.status.Status.TheVariants.{ReadFault}
use Rattle.plant_status.specs.declared.unit.Unit.TheVariants.{Tag}
use Rattle.plant_files.specs.Reading.{faults_told}
use Rattle.plant_store.specs.{CountsDevices}
use Rattle.plant_store.specs.Tags.{tag_records_in}
use Rattle.plant_store.specs.TagRefusals.{CountsStore, IsRefusal, status_of}

-- the refusal of a tag is no fault of a file
pub no_file_fault : (i : ℕ) (why : OpenNo) (n : ℕ) → faults_told (status_of i why) n ≡ n
no_file_fault i DeviceFault n = refl
no_file_fault i other n = refl

-- the refusal of a tag is no read fault
pub tag_is_no_fault : (tags : List TagDef) (old new : List ℕ → Trace) (before now : ℕ) (why : Status)
    → IsRefusal tags old new before now why → (which : FileId) → why ≢ ReadFault which
tag_is_no_fault tags old new before now why is which same = subst (IsRefusal tags old new before now) same is

-- each of these is one of fewer than all
pub few_each : (cores : List Core) → tag_records_in cores ≤ most_stored → All (λ core. length core.state.records < 2 ^ 32) cores
few_each cores few k d below =
    let one = get_or-le-sum_by (λ (core : Core). length core.state.records) cores k d below in omega (arith, few, one)

-- the faults that opening tags counts are those of devices
pub of_tags : {T : Type 0} (r : Result T Status) (before now : ℕ) → CountsStore r before now → CountsDevices r before now
of_tags (Ok x) before now same = same
of_tags (Err why) before now (inl same) = inl same
of_tags (Err why) before now (inr fault) = inr (Tag fault.0, fault.1, fault.2)

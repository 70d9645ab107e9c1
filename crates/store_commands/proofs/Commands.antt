-- What the commands over stored archives need of a base and of its queries.
use Rattle.std.proofs.Common.{◌≡◌, ℕ, List, [], length, refl, arith, ap, ◌∷◌}
use Rattle.trend_num.specs.{Rec}
use Rattle.tag_base.specs.{GroupDef}
use Rattle.value_rows.specs.{Query, GroupNames}
use Rattle.plant_files.specs.{ToldFiles, AreReaderFiles}
use Rattle.plant_status.specs.declared.status.Status.{Status}
use Rattle.plant_files.specs.Reading.{faults_told}
use Rattle.disk_model.specs.{Trace}
use Rattle.plant_store.specs.BookRefusals.{OfDamage, OfFault, OfMemory, OfVersion, OfWindows}
use Rattle.store_commands.specs.GroupRows.{IsGroupRowsRefusal, OfCells, OfCopies, OfOpening, OfWant}

-- the refusal of a group is no fault of a file
pub rows_no_fault : (groups : List GroupDef) (records : List (List Rec)) (old new : List ℕ → Trace) (before now : ℕ) (why : Status)
    → IsGroupRowsRefusal groups records old new before now why → (n : ℕ) → faults_told why n ≡ n
rows_no_fault groups records old new before now why (OfOpening (OfFault i is at)) n = ap (λ s. faults_told s n) is
rows_no_fault groups records old new before now why (OfOpening (OfDamage i a byte is at)) n = ap (λ s. faults_told s n) is
rows_no_fault groups records old new before now why (OfOpening (OfVersion i input found version is at)) n = ap (λ s. faults_told s n) is
rows_no_fault groups records old new before now why (OfOpening (OfWindows i windows rows is at)) n = ap (λ s. faults_told s n) is
rows_no_fault groups records old new before now why (OfOpening (OfMemory is)) n = ap (λ s. faults_told s n) is
rows_no_fault groups records old new before now why (OfCells i number is at) n = ap (λ s. faults_told s n) is
rows_no_fault groups records old new before now why (OfCopies i number is at) n = ap (λ s. faults_told s n) is
rows_no_fault groups records old new before now why (OfWant is) n = ap (λ s. faults_told s n) is

-- there is one list of queries for each file
pub as_many_lists : (tags : List (List ℕ)) (groups : List GroupNames) (told : ToldFiles) (files : List (List ℕ))
    (lists : List (List Query)) → AreReaderFiles tags groups told files lists → length lists ≡ length files
as_many_lists tags groups told [] [] are = refl
as_many_lists tags groups told [] (q ∷ qs) are = absurd are
as_many_lists tags groups told (f ∷ fs) [] are = absurd are
as_many_lists tags groups told (f ∷ fs) (q ∷ qs) are =
    omega (arith, as_many_lists tags groups told fs qs are.1)
